use Rattle.bb_memory_pool_machine.specs.PoolLogs.{MayBeFound}
use Rattle.bb_memory_pool_machine.specs.PoolMachine.{PoolScene}
use Rattle.bb_memory_shared_pools.proofs.FlagWords.{names_within}
use Rattle.bb_memory_shared_pools.proofs.SharedPoolKeeps.{finds_as}
use Rattle.bb_memory_shared_pools.proofs.shared_pool.flags.Flags.found.Goals as goal
use Rattle.bb_memory_shared_pools.specs.FlagWords.{bucket_of, flag_in}
use Rattle.bb_memory_shared_pools.specs.SharedPool.{SharedPool}
use Rattle.std.proofs.Common.{ap, arith, subst, sym, ℕ, ◌<◌, ◌∙◌, ◌≡◌}

pub load_new_seat-word-requires : goal.load_new_seat-word-requires
load_new_seat-word-requires c =
    let key = c.self.invariant.0 ∙ ap (λ (p : SharedPool). p.scene) c.self.view_is in
    let below = rw (← c.self.view_is) at c.requires in
    let counted = c.self.invariant.1.words in (
      omega arith,
      finds_as c.self.inside.table.shared.key _ c.word_of.result c.args.bucket c.word_of.ensures
          (subst (λ (s : PoolScene). c.args.bucket < s.geometry.buckets) (sym key) c.requires),
    )

pub flag_of-requires : goal.flag_of-requires
flag_of-requires c =
    let found = c.load_new_seat-word.ensures.2 in
    let key = c.self.invariant.0 ∙ ap (λ (p : SharedPool). p.scene) c.self.view_is in
    let parties = ap (λ (s : PoolScene). s.parties) key in
    let few = c.parties.type_inv in
    let is = c.parties.ensures in
    (found.0, found.1, names_within c.self.inside.table.shared.key.parties 4294967296 (flag_in found.0) (omega arith) found.2.made)

pub returns : goal.returns
returns c =
    let found = c.load_new_seat-word.ensures.2 in
    let key = c.self.invariant.0 ∙ ap (λ (p : SharedPool). p.scene) c.self.view_is in
    let parties = ap (λ (s : PoolScene). s.parties) key in
    let few = c.parties.type_inv in
    let is = c.parties.ensures in
    let flag = sym (c.flag_of.ensures found.0 found.1
    (names_within c.self.inside.table.shared.key.parties 4294967296 (flag_in found.0) (omega arith) found.2.made)) in
    let bucket : bucket_of c.word_of.result ≡ c.args.bucket = omega (arith, c.word_of.ensures) in
    subst (λ (s : PoolScene). MayBeFound s c.args.bucket c.flag_of.result) key
    (subst (λ (b : ℕ). MayBeFound c.self.inside.table.shared.key b c.flag_of.result) bucket
    (subst (MayBeFound c.self.inside.table.shared.key (bucket_of c.word_of.result)) flag found.2))
