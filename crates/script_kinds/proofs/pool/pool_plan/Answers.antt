use Rattle.script_kinds.proofs.pool.pool_plan.Goals as goal
use Rattle.script_kinds.specs.Allocators.{IsPoolPlan, pool_numbers}
use Rattle.script_kinds.specs.declared.pool.PoolPlan.{PoolPlan}
use Rattle.scripts.specs.declared.words.Numbers.TheVariants.{Four}
use Rattle.std.proofs.Common.{arith, subst, sym, ◌∙◌, ◌≡◌}
use Rattle.std.proofs.lemmas.Grind.{common_steps}
use Rattle.std.proofs.lemmas.Option.{none-some, same_Some}

pub returns-in_err-bucket-in-Four-clause-each : goal.returns-in_err-bucket-in-Four-clause-each
returns-in_err-bucket-in-Four-clause-each c plan is name numbers =
    let four = c.in-Four in
    let e : Four four.start four.size four.bucket four.align ≡ pool_numbers plan = sym four.is ∙ numbers in
    absurd (none-some plan.bucket (c.in_err-bucket-in-Four.ensures.each plan.bucket (cc) (cc)))

-- the numbers of a plan make that plan, which may be made
pub returns-in_ok-bucket-in-Four-clause-each : goal.returns-in_ok-bucket-in-Four-clause-each
returns-in_ok-bucket-in-Four-clause-each c plan is name numbers =
    let four = c.in-Four in
    let e : Four four.start four.size four.bucket four.align ≡ pool_numbers plan = sym four.is ∙ numbers in
    let start : four.start ≡ plan.start = cc in
    let size : four.size ≡ plan.size = cc in
    let bucket = same_Some c.in_ok-bucket-in-Four.bucket plan.bucket
    (c.in_ok-bucket-in-Four.ensures.each plan.bucket (cc) (cc)) in
    let made : PoolPlan = record { start = four.start; size = four.size; bucket = c.in_ok-bucket-in-Four.bucket } in
    let same : made ≡ plan = λ i. record { start = start i; size = size i; bucket = bucket i } in
    let may = subst IsPoolPlan (sym same) is in
    grind (arith, common_steps, same, may)
