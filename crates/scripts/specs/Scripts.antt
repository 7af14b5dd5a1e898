-- Scripts of any kind: the rules of a kind, what a run writes and how it ends, and the output for
-- an input by a table of kinds.
use Rattle.scripts.specs.Words.{MayStand, Words, lines_of, unreadable_text, words, words_text}
pub use Rattle.scripts.specs.declared.driving.Line.{Line}
use Rattle.scripts.specs.declared.driving.Line.TheVariants.{Command, Show}
use Rattle.scripts.specs.declared.driving.Outcome.{Outcome}
use Rattle.scripts.specs.declared.driving.Outcome.TheVariants as outcome
pub use Rattle.scripts.specs.declared.status.Status.{Status}
use Rattle.scripts.specs.declared.status.Status.TheVariants.{Done, InputFailed, OutOfMemory, OutputFailed, Unreadable}
use Rattle.scripts.specs.declared.words.Numbers.{Numbers}
use Rattle.std.specs.Io.KnownBytes.{Appends, Keeps}
use Rattle.std.specs.List.{flat_map}
use Rattle.std.specs.Prelude.{All, Bool, IfSome, IsTrue, List, None, Option, Some, [], codes, map, not, slice_get, take, true, ℕ, ◌&&◌, ◌++◌, ◌-◌, ◌∷◌, ◌≡◌, ◌≢◌, ◌⊎◌}
use Rattle.std.specs.Str.{bytes_eq}

-- The rules of a kind of scripts. A script drives a value whose states are S. A header O makes the
-- value, which then runs commands C, each with a reply R.
pub record Rules (S O C R : Type 0) : Type 1 where
  -- the first word of a script
  pub name : List ℕ
  -- a script may have this header
  pub is_header : O → Type 0
  -- the numbers that a header's line has
  pub header_numbers : O → Numbers
  -- a script may have this command
  pub is_command : C → Type 0
  -- the words of a command's line
  pub command_words : C → Words
  -- a script may have `show`
  pub can_show : Bool
  -- a header makes a value in this state
  pub starts : O → S → Type 0
  -- commands that run in the first state have these replies, and leave the second state
  pub runs : S → List C → List R → S → Type 0
  -- the text that is written for a reply
  pub reply_text : R → List ℕ
  -- the text that `show` writes for a state
  pub state_text : S → List ℕ

-- the words of the first line: the kind's name, and the numbers of the header
abbrev pub header_words : {S O C R : Type 0} → Rules S O C R → O → Words
header_words rules header = words rules.name (rules.header_numbers header)

-- a line after the first: a command, or `show` if the kind has it
abbrev pub IsLine : {S O C R : Type 0} → Rules S O C R → Line C → Type 0
IsLine rules (Command command) = rules.is_command command × MayStand (rules.command_words command)
IsLine rules Show = IsTrue rules.can_show

-- the text of a line after the first
abbrev pub line_text : {S O C R : Type 0} → Rules S O C R → Line C → List ℕ
line_text rules (Command command) = words_text (rules.command_words command)
line_text rules Show = codes "show"

-- a kind of scripts: its rules, over types of its own
pub record Kind : Type 1 where
  pub State : Type 0
  pub Header : Type 0
  pub Command : Type 0
  pub Reply : Type 0
  pub rules : Rules State Header Command Reply

-- the kind with these rules
abbrev pub kind : {S O C R : Type 0} → Rules S O C R → Kind
kind {S} {O} {C} {R} rules = record { State = S; Header = O; Command = C; Reply = R; rules = rules }

-- `Holds` is true of some kind of the table
abbrev pub SomeOf : List Kind → (Kind → Type 0) → Type 0
SomeOf [] Holds = ⊥
SomeOf (one ∷ others) Holds = Holds one ⊎ SomeOf others Holds

-- no kind of the table has this name
abbrev pub is_new : List ℕ → List Kind → Bool
is_new name [] = true
is_new name (one ∷ others) = not (bytes_eq name one.rules.name) && is_new name others

-- no two kinds have the same name, so a line is the first line of at most one kind
abbrev pub are_apart : List Kind → Bool
are_apart [] = true
are_apart (one ∷ others) = is_new one.rules.name others && are_apart others

-- the text begins with the bytes `sent`
abbrev pub Begins : List ℕ → List ℕ → Type 0
Begins sent text = (rest : List ℕ) × (text ≡ sent ++ rest)

-- some beginning of the text is appended to the known bytes
abbrev pub AppendsPart : Option (List ℕ) → Option (List ℕ) → List ℕ → Type 0
AppendsPart old new text = (sent : List ℕ) × Begins sent text × Appends old new sent

-- all of the text is sent and the status is returned, or a beginning is sent and the output failed
abbrev pub Sends : Option (List ℕ) → Option (List ℕ) → List ℕ → Status → Status → Type 0
Sends old new text status ends = (ends ≡ status) × Appends old new text ⊎ (ends ≡ OutputFailed) × AppendsPart old new text

-- the text is that of a line after the first
abbrev pub IsLineText : {S O C R : Type 0} → Rules S O C R → List ℕ → Type 0
IsLineText {S} {O} {C} {R} rules text = (line : Line C) × IsLine rules line × (text ≡ line_text rules line)

-- the line at this index, counted from 0, is the first unreadable one
abbrev pub IsFirstUnreadable : (List ℕ → Type 0) → List (List ℕ) → ℕ → Type 0
IsFirstUnreadable IsReadable lines index =
    All IsReadable (take index lines) × (line : List ℕ) × (slice_get lines index ≡ Some line) × ¬ IsReadable line

-- the lines after the first are those of this script, and each may be in it
abbrev pub AreScript : {S O C R : Type 0} → Rules S O C R → List (List ℕ) → List (Line C) → Type 0
AreScript rules lines script = All (IsLine rules) script × (lines ≡ map (line_text rules) script)

-- The effect of one line: a command is added to the waiting ones. A `show` runs all waiting
-- commands, and writes their replies and then the state.
abbrev pub IsStep : {S O C R : Type 0} → Rules S O C R → S → List C → Line C → List ℕ → S → List C → Type 0
IsStep rules old waiting (Command command) text new left = (new ≡ old) × (left ≡ waiting ++ command ∷ []) × (text ≡ [])
IsStep {S} {O} {C} {R} rules old waiting Show text new left =
    (replies : List R) × rules.runs old waiting replies new × (left ≡ [])
    × (text ≡ flat_map rules.reply_text replies ++ rules.state_text new)

-- these lines, one after another, write this text
abbrev pub IsTold : {S O C R : Type 0} → Rules S O C R → S → List C → List (Line C) → List ℕ → S → List C → Type 0
IsTold rules old waiting [] text new left = (new ≡ old) × (left ≡ waiting) × (text ≡ [])
IsTold {S} {O} {C} {R} rules old waiting (line ∷ lines) text new left =
    (mid : S) × (later : List C) × (first rest : List ℕ) × IsStep rules old waiting line first mid later
    × IsTold rules mid later lines rest new left × (text ≡ first ++ rest)

-- the lines of a script, and then the commands that still wait, write this text
abbrev pub IsPlayed : {S O C R : Type 0} → Rules S O C R → S → List (Line C) → List ℕ → S → Type 0
IsPlayed {S} {O} {C} {R} rules old script text new =
    (mid : S) × (waiting : List C) × (front : List ℕ) × (replies : List R) × IsTold rules old [] script front mid waiting
    × rules.runs mid waiting replies new × (text ≡ front ++ flat_map rules.reply_text replies)

-- the exit status of a program
abbrev pub code_of : Status → ℕ
code_of Done = 0
code_of Unreadable = 2
code_of InputFailed = 3
code_of OutputFailed = 3
code_of OutOfMemory = 4

-- the text on standard error, if there is one
abbrev pub message_of : Status → Option (List ℕ)
message_of Done = None
message_of Unreadable = None
message_of InputFailed = Some (codes "input failed")
message_of OutputFailed = Some (codes "output failed")
message_of OutOfMemory = Some (codes "out of memory")

-- the lines are a first line of this kind, with this header, and the rest
pub record HasHeader (kind : Kind) (lines : List (List ℕ)) (header : kind.Header) (rest : List (List ℕ)) : Type 0 where
  pub allowed : kind.rules.is_header header
  pub stand : MayStand (header_words kind.rules header)
  pub cut : lines ≡ words_text (header_words kind.rules header) ∷ rest

-- the first line is of this kind, and so is each further line
abbrev pub IsScriptOf : List (List ℕ) → Kind → Type 0
IsScriptOf lines kind =
    (header : kind.Header) × (rest : List (List ℕ)) × HasHeader kind lines header rest × All (IsLineText kind.rules) rest

-- the lines are a script of this kind, and the text is its transcript
abbrev pub IsAnsweredBy : List (List ℕ) → List ℕ → Kind → Type 0
IsAnsweredBy lines text kind = (header : kind.Header) × (rest : List (List ℕ)) × HasHeader kind lines header rest
    × (script : List (Line kind.Command)) × (first : kind.State) × (last : kind.State) × AreScript kind.rules rest script
    × kind.rules.starts header first × IsPlayed kind.rules first script text last

-- the lines are a script of some kind
abbrev pub AreReadable : List Kind → List (List ℕ) → Type 0
AreReadable table lines = SomeOf table (IsScriptOf lines)

-- The first unreadable line has this number, counted from 1: the lines before it, if there are any,
-- are readable, and together with it they aren't.
abbrev pub IsUnreadableAt : List Kind → List (List ℕ) → ℕ → Type 0
IsUnreadableAt table lines number =
    ((number ≡ 1) ⊎ AreReadable table (take (number - 1) lines)) × ¬ AreReadable table (take number lines)

-- The outcome for these lines: the transcript of their script, the number of the first unreadable
-- line, or that memory ran out.
abbrev pub IsOutcome : List Kind → List (List ℕ) → Outcome → Type 0
IsOutcome table lines (outcome.Answered text) = SomeOf table (IsAnsweredBy lines text.items)
IsOutcome table lines (outcome.Unreadable number) = IsUnreadableAt table lines number
IsOutcome table lines outcome.OutOfMemory = Unit {0}

-- the input is a script, and the text is its transcript
abbrev pub IsAnswered : List Kind → List ℕ → List ℕ → Type 0
IsAnswered table input text = SomeOf table (IsAnsweredBy (lines_of input) text)

-- the first unreadable line of the input has this number
abbrev pub IsUnreadable : List Kind → List ℕ → ℕ → Type 0
IsUnreadable table input number = IsUnreadableAt table (lines_of input) number

-- the text is what is written for the input: a transcript, or the line about the first unreadable
-- line
abbrev pub IsOutput : List Kind → List ℕ → List ℕ → Type 0
IsOutput table input text =
    IsAnswered table input text ⊎ ((number : ℕ) × IsUnreadable table input number × (text ≡ unreadable_text number))

-- the bytes `sent` are a beginning of what is written for the input
abbrev pub BeginsOutput : List Kind → List ℕ → List ℕ → Type 0
BeginsOutput table input sent = (text : List ℕ) × IsOutput table input text × Begins sent text

-- how a run on an input ends, and its output
pub record Ends (table : List Kind) (input : List ℕ) (old new : Option (List ℕ)) (status : Status) : Type 0 where
  pub done : status ≡ Done → (text : List ℕ) × IsAnswered table input text × Appends old new text
  pub unreadable : status ≡ Unreadable → (number : ℕ) × IsUnreadable table input number × Appends old new (unreadable_text number)
  pub input_read : status ≢ InputFailed
  pub out_of_memory : status ≡ OutOfMemory → Keeps old new
  pub output_failed : status ≡ OutputFailed → (sent : List ℕ) × BeginsOutput table input sent × Appends old new sent

-- if the bytes that a reader has left are known, they are the input
abbrev pub IsLeft : List ℕ → Option (List ℕ) → Type 0
IsLeft input left = IfSome left (λ bytes. input ≡ bytes)
