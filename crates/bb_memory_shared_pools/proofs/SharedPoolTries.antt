-- Logs after a pass, after a step of an idle party, and after a return.
use Rattle.bb_memory_pool_machine.proofs.PoolHolders.{held_through}
use Rattle.bb_memory_pool_machine.specs.PoolHints.{hint_after}
use Rattle.bb_memory_pool_machine.specs.PoolLogs.{PoolEntry, PoolLog, entry_of, held_after, loss_at, pass_after, pass_in}
use Rattle.bb_memory_pool_machine.specs.declared.hint.Hint.{Hint}
use Rattle.bb_memory_pool_machine.specs.declared.steps.pool.PoolOutcome.TheVariants.{Loses, RefusedAtLoss, Takes}
use Rattle.bb_memory_pool_machine.specs.declared.steps.pool.PoolStep.TheVariants.{Try}
use Rattle.bb_memory_shared_pools.specs.SharedPool.{losses, refused_pass, taking_pass}
use Rattle.std.proofs.Common.{Bool, None, Option, [], ap, arith, false, refl, suc, sym, true, zero, ℕ, ◌++◌, ◌+◌, ◌<◌, ◌∙◌, ◌∷◌, ◌≡◌, ◌≤◌}
use Rattle.std.proofs.lemmas.Bool.Decides.{nat_tests}
use Rattle.std.specs.Prelude.{fold, if◌then◌else◌, nat_lt, ◌==◌}

abbrev pass_through : Option ℕ → PoolLog → Option ℕ
pass_through pass log = fold (λ pass entry. pass_after pass entry.outcome) pass log

pass-append : (pass : Option ℕ) (log more : PoolLog) → pass_through pass (log ++ more) ≡ pass_through (pass_through pass log) more
pass-append pass [] more = refl
pass-append pass (entry ∷ log) more = pass-append (pass_after pass entry.outcome) log more

pub held-append : (bucket : ℕ) (held : Bool) (log more : PoolLog) →
    held_through bucket held (log ++ more) ≡ held_through bucket (held_through bucket held log) more
held-append bucket held [] more = refl
held-append bucket held (entry ∷ log) more = held-append bucket (held_after bucket held entry.outcome) log more

abbrev pub hint_through : Hint → PoolLog → Hint
hint_through hint log = fold (λ hint entry. hint_after hint entry.outcome) hint log

pub hint-append : (hint : Hint) (log more : PoolLog) → hint_through hint (log ++ more) ≡ hint_through (hint_through hint log) more
hint-append hint [] more = refl
hint-append hint (entry ∷ log) more = hint-append (hint_after hint entry.outcome) log more

-- LOSSES

held-loss : (bucket lost : ℕ) (held more : Bool) → held_after bucket held (if more then Loses lost else RefusedAtLoss lost) ≡ held
held-loss bucket lost held true = refl
held-loss bucket lost held false = refl

-- losses change nothing of what is held
pub held-losses : (buckets party lost bucket : ℕ) (held : Bool) → held_through bucket held (losses buckets party lost) ≡ held
held-losses buckets party zero bucket held = refl
held-losses buckets party (suc lost) bucket held =
    held-append bucket held (losses buckets party lost) (entry_of (Try party) (loss_at buckets lost) ∷ [])
    ∙ held-loss bucket lost (held_through bucket held (losses buckets party lost)) (nat_lt (lost + 1) buckets)
    ∙ held-losses buckets party lost bucket held

-- losses don't change a hint
hint-loss : (lost : ℕ) (hint : Hint) (more : Bool) → hint_after hint (if more then Loses lost else RefusedAtLoss lost) ≡ hint
hint-loss lost hint true = refl
hint-loss lost hint false = refl

pub hint-losses : (buckets party lost : ℕ) (hint : Hint) → hint ≡ hint_through hint (losses buckets party lost)
hint-losses buckets party zero hint = refl
hint-losses buckets party (suc lost) hint =
    let before : Hint = hint_through hint (losses buckets party lost) in
    hint-losses buckets party lost hint
    ∙ sym (hint-append hint (losses buckets party lost) (entry_of (Try party) (loss_at buckets lost) ∷ [])
    ∙ hint-loss lost before (nat_lt (lost + 1) buckets))

pub hint-taking : (buckets party taken : ℕ) (hint : Hint) →
    hint_after hint (Takes taken) ≡ hint_through hint (taking_pass buckets party taken)
hint-taking buckets party taken hint = ap (λ (h : Hint). hint_after h (Takes taken)) (hint-losses buckets party taken hint)
    ∙ sym (hint-append hint (losses buckets party taken) (entry_of (Try party) (Takes taken) ∷ []))

-- so a log holds what it held before the losses
pub same_held : (buckets party lost bucket : ℕ) (log : PoolLog) →
    held_through bucket false (log ++ losses buckets party lost) ≡ held_through bucket false log
same_held buckets party lost bucket log = held-append bucket false log (losses buckets party lost)
    ∙ held-losses buckets party lost bucket (held_through bucket false log)

pub test_below : (m n : ℕ) → m < n → nat_lt m n ≡ true
test_below m n below = grind (arith, nat_tests)

pub test_not_below : (m n : ℕ) → n ≤ m → nat_lt m n ≡ false
test_not_below m n least = grind (arith, nat_tests)

-- WHOLE PASSES

-- after a loss at each bucket, a pass is over
idle-losses : (buckets party : ℕ) → pass_through None (losses buckets party buckets) ≡ None
idle-losses zero party = refl
idle-losses (suc buckets) party =
    let before : Option ℕ = pass_through None (losses (suc buckets) party buckets) in
    pass-append None (losses (suc buckets) party buckets) (entry_of (Try party) (loss_at (suc buckets) buckets) ∷ [])
    ∙ ap (λ (more : Bool). pass_after before (if more then Loses buckets else RefusedAtLoss buckets))
    (test_not_below (buckets + 1) (suc buckets) (omega arith))

pub idle_after_refusal : (buckets party : ℕ) (log : PoolLog) → pass_in log ≡ None →
    pass_in (log ++ refused_pass buckets party) ≡ None
idle_after_refusal buckets party log idle = pass-append None log (losses buckets party buckets)
    ∙ ap (λ (pass : Option ℕ). pass_through pass (losses buckets party buckets)) idle
    ∙ idle-losses buckets party

pub idle_after_taking : (buckets party bucket : ℕ) (log : PoolLog) → pass_in (log ++ taking_pass buckets party bucket) ≡ None
idle_after_taking buckets party bucket log = pass-append None log (taking_pass buckets party bucket)
    ∙ pass-append (pass_in log) (losses buckets party bucket) (entry_of (Try party) (Takes bucket) ∷ [])

-- a pass that takes a bucket leaves it held, and the others as they were
pub held-taking : (buckets party taken bucket : ℕ) (log : PoolLog) →
    held_through bucket false (log ++ taking_pass buckets party taken)
    ≡ (if taken == bucket then true else held_through bucket false log)
held-taking buckets party taken bucket log =
    let before : Bool = held_through bucket false log in
    held-append bucket false log (taking_pass buckets party taken)
    ∙ held-append bucket before (losses buckets party taken) (entry_of (Try party) (Takes taken) ∷ [])
    ∙ ap (λ (held : Bool). if taken == bucket then true else held) (held-losses buckets party taken bucket before)

-- STEPS OF AN IDLE PARTY

-- such a step leaves the party idle
pub idle_after_one : (log : PoolLog) (entry : PoolEntry) → pass_in log ≡ None → pass_after None entry.outcome ≡ None →
    pass_in (log ++ entry ∷ []) ≡ None
idle_after_one log entry idle is =
    pass-append None log (entry ∷ []) ∙ ap (λ (pass : Option ℕ). pass_after pass entry.outcome) idle ∙ is

-- so do steps after which the party would be idle again
pub idle_after_steps : (log steps : PoolLog) → pass_in log ≡ None → pass_in steps ≡ None → pass_in (log ++ steps) ≡ None
idle_after_steps log steps idle is =
    pass-append None log steps ∙ ap (λ (pass : Option ℕ). pass_through pass steps) idle ∙ is
