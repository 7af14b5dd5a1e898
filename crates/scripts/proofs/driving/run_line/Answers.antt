use Rattle.scripts.proofs.Telling.{on_ok}
use Rattle.scripts.proofs.driving.run_line.Goals as goal
use Rattle.std.proofs.Common.{List, ap, append_assoc, refl, ℕ, ◌++◌, ◌∙◌}
use Rattle.std.specs.List.{flat_map}

pub returns-in_ok-write_replies-in-Show : goal.returns-in_ok-write_replies-in-Show
returns-in_ok-write_replies-in-Show g c =
    let rules = g.K.ScriptKind.rules in
    let (replies, runs, told) = c.in_ok-write_replies-in-Show.ensures in
    let state : List ℕ = rules.state_text c.write_replies.new.state in
    let lines : List ℕ = flat_map rules.reply_text replies in
    let step = rw c.deref.ensures.value at runs in
    on_ok c.write_state.result (λ shown. (
      lines ++ state,
      rw c.in-Show.is (replies, step, c.clear.ensures.items, refl),
      shown ∙ (ap (λ l. l ++ state) told ∙ append_assoc c.args.text.now.items lines state),
    ))
    c.write_state.ensures
