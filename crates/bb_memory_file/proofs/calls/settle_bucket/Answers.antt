use Rattle.bb_memory_file.proofs.FileSettlers.{cleared, given_back, passed, sent_back}
use Rattle.bb_memory_file.proofs.calls.settle_bucket.Goals.{in-Entered, in-Nowhere}
use Rattle.bb_memory_file.proofs.calls.settle_bucket.Goals as goal
use Rattle.bb_memory_file.specs.FileCode.{StoreFlag, told}
use Rattle.bb_memory_file.specs.FileNames.{Free}
use Rattle.std.proofs.Common.{ap, sym, ◌∙◌}

pub returns-then-not-is_same : goal.returns-then-not-is_same
returns-then-not-is_same g c process =
    passed process (g.W.Words.log c.args.words.now) c.args.bucket c.requires _ c.load_flag.result c.party.result c.party.ensures
    c.load_flag.ensures (sym c.is_same.ensures ∙ c.if-not-is_same.true)

pub returns-in-In : goal.returns-in-In
returns-in-In g c process =
    sent_back process (g.W.Words.log c.args.words.now) c.args.bucket c.requires _ _ c.load_flag.result c.load_flag.ensures _
    c.in-In.slot c.in-In.lap c.in-In.ensures.found c.store_flag.ensures

pub returns : goal.returns
returns g c process =
    let old = g.W.Words.log c.args.words.now in
    elim c.match-find.branch [
      | in-Entered w ↦ cleared process old c.args.bucket c.requires _ _ c.load_flag.result c.load_flag.ensures _ _
          w.in-Entered.ensures.found
          w.store_entry.ensures
          (c.store_flag-2.ensures ∙ ap (λ words. told (g.W.Words.log words) (StoreFlag c.args.bucket Free)) w.words-is)
      | in-Nowhere w ↦ given_back process old c.args.bucket c.requires _ _ c.load_flag.result c.load_flag.ensures _
          w.in-Nowhere.ensures.found
          (c.store_flag-2.ensures ∙ ap (λ words. told (g.W.Words.log words) (StoreFlag c.args.bucket Free)) w.words-is)
    ]
