use Rattle.bb_memory_file.proofs.FileSearches.{first_missed, first_taken}
use Rattle.bb_memory_file.proofs.calls.allocate_first.Goals as goal
use Rattle.bb_memory_file.specs.FileCalls.{AllocateSays, BeginsSearch}
use Rattle.bb_memory_file.specs.FileCode.{ExchangeFlag, FileLog, MissFlag, told}
use Rattle.bb_memory_file.specs.FileNames.{Free, HeldBy}
use Rattle.std.proofs.Common.{Bool, Some, false, true, ℕ, ◌<◌, ◌≡◌}
use Rattle.std.specs.Prelude.{MatchBool}

-- what an exchange of the first bucket says
answers : (old new : FileLog) (hint buckets party : ℕ) (won : Bool) → buckets ≡ old.scene.buckets → hint < buckets →
    party ≡ old.party →
    MatchBool won (new ≡ told old (ExchangeFlag hint Free (HeldBy party))) (new ≡ told old (MissFlag hint Free)) →
    MatchBool won (AllocateSays old hint (Some hint) new) (BeginsSearch old hint new)
answers old new hint buckets party true all below mine is = first_taken old new hint buckets all below party mine is
answers old new hint buckets party false all below mine is = first_missed old new hint buckets all below is

pub returns-clause-answer : goal.returns-clause-answer
returns-clause-answer g c =
    answers (g.W.Words.log c.args.words.now) (g.W.Words.log c.exchange_flag.new.self) c.args.hint c.buckets.result c.party.result
    c.exchange_flag.result c.buckets.ensures c.if-hint-buckets.false c.party.ensures c.exchange_flag.ensures
