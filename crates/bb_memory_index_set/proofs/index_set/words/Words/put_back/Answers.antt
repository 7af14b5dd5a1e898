use Rattle.bb_memory_index_set.proofs.LastFreed.{others_have, put_back}
use Rattle.bb_memory_index_set.proofs.Listings.{room_left}
use Rattle.bb_memory_index_set.proofs.NumberWords.{has_word}
use Rattle.bb_memory_index_set.proofs.OpenWords.{Opens, named_current, set_opened, set_still}
use Rattle.bb_memory_index_set.proofs.Tallies.{tally-some}
use Rattle.bb_memory_index_set.proofs.index_set.words.Words.put_back.Goals.{else-self-gt0, then-self-gt0}
use Rattle.bb_memory_index_set.proofs.index_set.words.Words.put_back.Goals as goal
use Rattle.std.proofs.Common.{List, ap, arith, get_or, length, length-set, set, ℕ, ◌-◌, ◌/◌, ◌∙◌}

pub overflow_sub-self : goal.overflow_sub-self
overflow_sub-self g c =
    let inside = c.self.inside in
    let has = (others_have _ inside.last_freed c.args.number (rw (← c.self.view_is) at c.requires)).1 in
    tally-some _ inside.count inside.most c.args.number c.self.invariant.2 has

pub clear-was_full-requires : goal.clear-was_full-requires
clear-was_full-requires g c = grind (arith, others_have, has_word)

pub list-requires : goal.list-requires
list-requires g c =
    let inside = c.self.inside in
    let told = c.clear-was_full.ensures in
    let has = (others_have _ inside.last_freed c.args.number (rw (← c.self.view_is) at c.requires)).1 in
    let is = c.self.invariant.0 in
    let within = (has_word inside.bound inside.words.words c.args.number is.are has).1 in
    let left = room_left _ _ _ inside.open_count (c.args.number / 64) is.listing within
    (λ clear. clear (told.was_full c.if-was_full.true)) in
    let room = is.room in
    omega (arith, left, room, ap length told.listed, c.if-self-gt0.true)

pub invariant_of-self : goal.invariant_of-self
invariant_of-self g c =
    let inside = c.self.inside in
    let words = inside.words.words in
    let listed = inside.words.listed in
    let at : ℕ = c.args.number / 64 in
    let told = c.clear-was_full.ensures in
    let is = c.self.invariant.0 in
    let in_set = rw (← c.self.view_is) at c.requires in
    let has = (others_have _ inside.last_freed c.args.number in_set).1 in
    let left = put_back inside.bound words _ inside.last_freed c.args.number is.are c.self.invariant.1 in_set told.bit in
    let within = (has_word inside.bound words c.args.number is.are has).1 in
    let full = told.was_full c.if-was_full.true in
    let fits = room_left _ _ _ inside.open_count at is.listing within (λ clear. clear full) in
    let room = is.room in
    let opens : Opens inside.bound words c.clear-was_full.new.self.words at = record {
      are = left.are;
      puts = told.others;
      within = within;
      full = full;
      not_full = told.not_full;
    } in
    elim c.if-self-gt0.branch [
      | then-self-gt0 w ↦
          let named = w.list.ensures.listed ∙ ap (λ (l : List ℕ). set l (inside.open_count - 1) inside.current) told.listed in
          rw (w.self-inside-is, w.list.ensures.words) (
            set_opened inside.bound words listed c.clear-was_full.new.self.words w.list.new.self.listed
                inside.current inside.open_count at is opens
                (ap length named ∙ length-set listed (inside.open_count - 1) inside.current)
                (λ k h. ap (λ (l : List ℕ). get_or l k 0) named
                ∙ named_current listed inside.current inside.open_count k h (omega (arith, fits, room))),
            left.still_last_freed,
            left.tally inside.count inside.most c.self.invariant.2,
          )
      | else-self-gt0 w ↦
          rw w.self-inside-is (
            set_opened inside.bound words listed c.clear-was_full.new.self.words c.clear-was_full.new.self.listed inside.current
                inside.open_count at is opens (ap length told.listed)
                (λ k h. absurd (omega (arith, h, w.if-self-gt0.false))),
            left.still_last_freed,
            left.tally inside.count inside.most c.self.invariant.2,
          )
    ]

pub invariant_of-self-else-was_full : goal.invariant_of-self-else-was_full
invariant_of-self-else-was_full g c =
    let inside = c.self.inside in
    let words = inside.words.words in
    let told = c.clear-was_full.ensures in
    let is = c.self.invariant.0 in
    let in_set = rw (← c.self.view_is) at c.requires in
    let left = put_back inside.bound words _ inside.last_freed c.args.number is.are c.self.invariant.1 in_set told.bit in (
      set_still inside.bound words inside.words.listed c.clear-was_full.new.self.words c.clear-was_full.new.self.listed
          inside.current inside.open_count (c.args.number / 64) is left.are told.others
          (told.was_open c.if-was_full.false) told.not_full told.listed,
      left.still_last_freed,
      left.tally inside.count inside.most c.self.invariant.2,
    )

pub returns-after-self-gt0-clause-numbers : goal.returns-after-self-gt0-clause-numbers
returns-after-self-gt0-clause-numbers g c =
    let inside = c.self.inside in
    let in_set = rw (← c.self.view_is) at c.requires in
    let left = put_back inside.bound inside.words.words _ inside.last_freed c.args.number c.self.invariant.0.are
    c.self.invariant.1
    in_set c.clear-was_full.ensures.bit in
    elim c.if-self-gt0.branch [
      | then-self-gt0 w ↦ rw (← c.self.view_is, w.self-inside-is, w.list.ensures.words) left.less
      | else-self-gt0 w ↦ rw (← c.self.view_is, w.self-inside-is) left.less
    ]

pub returns-else-was_full-clause-numbers : goal.returns-else-was_full-clause-numbers
returns-else-was_full-clause-numbers g c =
    let inside = c.self.inside in
    let in_set = rw (← c.self.view_is) at c.requires in
    let left = put_back inside.bound inside.words.words _ inside.last_freed c.args.number c.self.invariant.0.are
    c.self.invariant.1
    in_set c.clear-was_full.ensures.bit in
    rw (← c.self.view_is) left.less
