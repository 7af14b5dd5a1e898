use Rattle.scripts.proofs.Tables.{no_header, outcome_later, outcome_wider}
use Rattle.scripts.proofs.answering.Tuple2Kinds.run.Goals as goal
use Rattle.scripts.specs.Scripts.{are_apart, header_words, is_new, kind}
use Rattle.scripts.specs.Words.{MayStand, lines_of, words, words_text}
use Rattle.std.proofs.Common.{ap₂, subst, sym, true, ◌≡◌}
use Rattle.std.proofs.lemmas.Bool.{and_parts}

pub run_script-requires-clause-stand : goal.run_script-requires-clause-stand
run_script-requires-clause-stand g c =
    let (allowed, name, numbers) = c.in-Some.ensures.written in
    subst MayStand (ap₂ words name numbers) c.requires.stand

pub run-requires-clause-apart : goal.run-requires-clause-apart
run-requires-clause-apart g c =
    (and_parts (is_new g.K.ScriptKind.rules.name g.Others.Kinds.table) (are_apart g.Others.Kinds.table) c.requires.apart).1

pub returns-in-Some : goal.returns-in-Some
returns-in-Some g c =
    let rules = g.K.ScriptKind.rules in
    let others = g.Others.Kinds.table in
    let apart = and_parts (is_new rules.name others) (are_apart others) c.requires.apart in
    let (allowed, name, numbers) = c.in-Some.ensures.written in
    let first = words c.args.name.now c.args.numbers in
    let same : header_words rules c.in-Some.header ≡ first = sym (ap₂ words name numbers) in
    outcome_wider (kind rules) others first (lines_of c.args.rest.now) c.run_script.result c.requires.stand
    (subst (λ w. is_new w.name others ≡ true) same apart.0) (rw same at c.run_script.ensures)

pub returns-in-None : goal.returns-in-None
returns-in-None g c =
    let rules = g.K.ScriptKind.rules in
    let rest = lines_of c.args.rest.now in
    let first = words c.args.name.now c.args.numbers in
    let none = rw c.in-None.is at c.read_header.ensures.each in
    outcome_later (kind rules) g.Others.Kinds.table (words_text first) rest c.run.result
    (no_header rules first rest c.requires.stand none) c.run.ensures
