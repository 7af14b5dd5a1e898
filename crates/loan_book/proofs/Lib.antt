mod BookLeads
mod BookRuns
mod BookSteps
mod Books
mod LoanedIds
mod LongLoans
mod OneAnswers
mod Searches
