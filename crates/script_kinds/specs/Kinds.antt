-- All kinds of scripts.
use Rattle.script_kinds.specs.Allocators.{bump_rules, fixed_rules, live_rules, one_chunk_rules, pool_rules}
use Rattle.script_kinds.specs.LoanPool.{loan_pool_rules}
use Rattle.script_kinds.specs.Steps.{bump_step_rules, pool_step_rules}
use Rattle.scripts.specs.Scripts.{Kind, kind}
use Rattle.std.specs.Prelude.{List, [], ◌∷◌}

-- the table of all kinds of scripts, in the order in which a first line is looked up
unfoldable pub kinds : List Kind
kinds = kind (live_rules bump_rules) ∷ kind (live_rules one_chunk_rules) ∷ kind (live_rules pool_rules)
    ∷ kind (live_rules fixed_rules) ∷ kind bump_step_rules ∷ kind pool_step_rules ∷ kind loan_pool_rules ∷ []
