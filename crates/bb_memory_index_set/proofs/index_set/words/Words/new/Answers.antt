use Rattle.bb_memory_index_set.proofs.LastFreed.{less_none}
use Rattle.bb_memory_index_set.proofs.NumberWords.{fresh_part, fresh_whole, last_word, zeros}
use Rattle.bb_memory_index_set.proofs.OpenWords.{fresh_set}
use Rattle.bb_memory_index_set.proofs.Tallies.{tally-fresh}
use Rattle.bb_memory_index_set.proofs.index_set.words.Words.new.Goals.{else-used-ne0, then-used-ne0}
use Rattle.bb_memory_index_set.proofs.index_set.words.Words.new.Goals as goal
use Rattle.bb_memory_index_set.specs.IndexSets.{Slots, index_words}
use Rattle.std.proofs.Common.{List, ap, arith, refl, set, ℕ, ◌-◌, ◌∙◌, ◌≡◌}
use Rattle.std.proofs.lemmas.Grind.{common_steps, elements}

pub loop-k-preserved : goal.loop-k-preserved
loop-k-preserved g c = grind (arith, common_steps)

pub invariant_of-result : goal.invariant_of-result
invariant_of-result g c =
    let bound = c.args.bound in
    let count = c.div_ceil-count.result in
    let is : count ≡ index_words bound = omega (arith, c.div_ceil-count.ensures) in
    let inv = c.loop-k.invariant in
    elim c.if-used-ne0.branch [
      | then-used-ne0 w ↦
          let words : c.if-used-ne0.words.words ≡ set (zeros count) (count - 1) (last_word bound) =
          ap (λ (s : Slots). s.words) w.words-is ∙ w.put.ensures.words
          ∙ ap (λ (ws : List ℕ). set ws (count - 1) (last_word bound)) inv.words in
          let listed : c.if-used-ne0.words.listed ≡ c.loop-k.words.listed =
          ap (λ (s : Slots). s.listed) w.words-is ∙ w.put.ensures.listed in
          let made = fresh_part bound count is (omega arith) in
          rw listed (
            fresh_set bound count c.if-used-ne0.words.words _ c.loop-k.words.listed words is made.0 made.1 inv.room
                (λ j h. inv.named j (omega (arith, h))),
            λ some. absurd (some refl),
            rw (words, made.2) (tally-fresh bound),
          )
      | else-used-ne0 w ↦
          let words : c.if-used-ne0.words.words ≡ zeros count = ap (λ (s : Slots). s.words) w.words-is ∙ inv.words in
          let listed : c.if-used-ne0.words.listed ≡ c.loop-k.words.listed = ap (λ (s : Slots). s.listed) w.words-is in
          let made = fresh_whole bound count is (omega arith) in
          rw listed (
            fresh_set bound count c.if-used-ne0.words.words _ c.loop-k.words.listed words is made.0 made.1 inv.room
                (λ j h. inv.named j (omega (arith, h))),
            λ some. absurd (some refl),
            rw (words, made.2) (tally-fresh bound),
          )
    ]

pub returns : goal.returns
returns g c = grind (arith, common_steps, less_none, fresh_part, fresh_whole)

pub put-requires : goal.put-requires
put-requires g c = grind (arith, elements)
