-- Lines with layouts.
use Rattle.bb_memory_bump_machine.specs.declared.steps.bump.BumpStep.{BumpStep}
use Rattle.bb_memory_bump_machine.specs.declared.steps.bump.BumpStep.TheVariants.{Read}
use Rattle.bb_memory_traits.specs.declared.allocator.Command.{Command}
use Rattle.bb_memory_traits.specs.declared.allocator.Command.TheVariants.{Allocate, Grow, Shrink}
use Rattle.bb_memory_traits.specs.declared.layout.Layout.{Layout}
use Rattle.script_kinds.specs.Allocators.{command_words}
use Rattle.script_kinds.specs.Steps.{bump_step_words}
use Rattle.scripts.specs.declared.words.Numbers.TheVariants.{Five, Three, Two}
use Rattle.std.proofs.Common.{List, None, Option, Some, ap, codes, ℕ, ◌∙◌, ◌≡◌}
use Rattle.std.proofs.lemmas.Option.{none-some, same_Some}
use Rattle.std.specs.Option.{option_map}

-- the result of making a layout from two numbers is each layout of these numbers
abbrev pub Makes : Option Layout → ℕ → ℕ → Type 0
Makes made size align = (layout : Layout) → layout.size ≡ size → layout.align ≡ align → made ≡ Some layout

-- two numbers say an `alloc`
pub reads_two : (made : Option Layout) (size align : ℕ) (command : Command) → Makes made size align
    → Two size align ≡ (command_words command).numbers → option_map Allocate made ≡ Some command
reads_two made size align (Allocate layout) makes e = ap (option_map Allocate) (makes layout (cc) (cc))
reads_two made size align command makes e = absurd (cc)

-- three numbers say a `read`
pub reads_three : (made : Option Layout) (party size align : ℕ) (step : BumpStep) → Makes made size align
    → Three party size align ≡ (bump_step_words step).numbers → option_map (λ layout. Read party layout) made ≡ Some step
reads_three made party size align (Read other layout) makes e =
    let same : party ≡ other = cc in
    ap (option_map (λ l. Read party l)) (makes layout (cc) (cc)) ∙ ap (λ p. Some (Read p layout)) same
reads_three made party size align step makes e = absurd (cc)

-- five numbers say a resize, whose layouts are made
pub old_made : (position a b size align : ℕ) (command : Command) → Makes None a b
    → Five position a b size align ≡ (command_words command).numbers → None ≡ Some command
old_made position a b size align (Grow other old new) makes e = absurd (none-some old (makes old (cc) (cc)))
old_made position a b size align (Shrink other old new) makes e = absurd (none-some old (makes old (cc) (cc)))
old_made position a b size align command makes e = absurd (cc)

pub new_made : (position a b size align : ℕ) (command : Command) → Makes None size align
    → Five position a b size align ≡ (command_words command).numbers → None ≡ Some command
new_made position a b size align (Grow other old new) makes e = absurd (none-some new (makes new (cc) (cc)))
new_made position a b size align (Shrink other old new) makes e = absurd (none-some new (makes new (cc) (cc)))
new_made position a b size align command makes e = absurd (cc)

-- by its name, a `grow`
pub reads_grow : (position a b size align : ℕ) (old new : Layout) (name : List ℕ) (command : Command)
    → Makes (Some old) a b → Makes (Some new) size align → name ≡ codes "grow" → name ≡ (command_words command).name
    → Five position a b size align ≡ (command_words command).numbers → Some (Grow position old new) ≡ Some command
reads_grow position a b size align old new name (Grow other before after) olds news is same e =
    let place : position ≡ other = cc in
    let first = same_Some old before (olds before (cc) (cc)) in
    let second = same_Some new after (news after (cc) (cc)) in
    λ i. Some (Grow (place i) (first i) (second i))
reads_grow position a b size align old new name command olds news is same e = absurd (cc)

-- the line of a `shrink` is read
pub reads_shrink : (position a b size align : ℕ) (old new : Layout) (name : List ℕ) (command : Command)
    → Makes (Some old) a b → Makes (Some new) size align → name ≡ codes "shrink" → name ≡ (command_words command).name
    → Five position a b size align ≡ (command_words command).numbers → Some (Shrink position old new) ≡ Some command
reads_shrink position a b size align old new name (Shrink other before after) olds news is same e =
    let place : position ≡ other = cc in
    let first = same_Some old before (olds before (cc) (cc)) in
    let second = same_Some new after (news after (cc) (cc)) in
    λ i. Some (Shrink (place i) (first i) (second i))
reads_shrink position a b size align old new name command olds news is same e = absurd (cc)
