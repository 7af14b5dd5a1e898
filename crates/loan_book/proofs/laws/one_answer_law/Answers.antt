use Rattle.loan_book.proofs.OneAnswers.{give-one, publish-one}
use Rattle.loan_book.proofs.laws.one_answer_law.Goals as goal

pub returns-clause-publish : goal.returns-clause-publish
returns-clause-publish c book id readers one other new next is first second =
    publish-one book is id readers one other new next first second

pub returns-clause-give_back : goal.returns-clause-give_back
returns-clause-give_back c book id one other new next is first second = give-one book is id 0 one other new next first second
