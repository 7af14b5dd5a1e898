-- Scripts that drive an allocator: what all of them share, and the rules of each.
use Rattle.bb_memory_bump.specs.Bump.{Bump, bump_text}
use Rattle.bb_memory_index_set.specs.IndexSets.{index_words}
use Rattle.bb_memory_owned.specs.OneChunk.{OneChunk, StandsFor as OneChunkStandsFor}
use Rattle.bb_memory_owned.specs.Pool.{CountedPool, Pool, StandsFor as PoolStandsFor, counted, fresh_pool, reads_after}
use Rattle.bb_memory_traits.specs.BumpObject.{StandsFor as BumpStandsFor, bump_object}
use Rattle.bb_memory_traits.specs.Chunk.{Chunk, IsRegion, first_place, region_at}
use Rattle.bb_memory_traits.specs.Geometry.{MayBeCut}
use Rattle.bb_memory_traits.specs.Object.{IsRun, ResizableStep, Step}
use Rattle.bb_memory_traits.specs.OneChunkObject.{one_chunk_object}
use Rattle.bb_memory_traits.specs.PoolObject.{IsCut, PoolGeometry, at_most, pool_object}
use Rattle.bb_memory_traits.specs.declared.allocator.AllocationError.{AllocationError}
use Rattle.bb_memory_traits.specs.declared.allocator.AllocationError.TheVariants as refused
use Rattle.bb_memory_traits.specs.declared.allocator.AllocationGrowError.TheVariants as grow
use Rattle.bb_memory_traits.specs.declared.allocator.AllocationShrinkError.TheVariants as shrink
use Rattle.bb_memory_traits.specs.declared.allocator.Command.{Command}
use Rattle.bb_memory_traits.specs.declared.allocator.Command.TheVariants.{Allocate, Grow, Release, Shrink}
use Rattle.bb_memory_traits.specs.declared.allocator.Reply.{Reply}
use Rattle.bb_memory_traits.specs.declared.allocator.Reply.TheVariants as reply
use Rattle.script_kinds.specs.declared.pool.PoolPlan.{PoolPlan}
use Rattle.scripts.specs.Scripts.{Rules}
use Rattle.scripts.specs.Words.{Words, bounds_numbers, name_line, region_of, words, words_then}
use Rattle.scripts.specs.declared.words.Bounds.{Bounds}
use Rattle.scripts.specs.declared.words.Numbers.{Numbers}
use Rattle.scripts.specs.declared.words.Numbers.TheVariants.{Five, Four, One, Two}
use Rattle.std.specs.Fmt.{decimal}
use Rattle.std.specs.Prelude.{List, None, Option, Some, [], codes, length, true, ℕ, ◌++◌, ◌-◌, ◌≡◌}

-- the words of a command's line
abbrev pub command_words : Command → Words
command_words (Allocate layout) = words (codes "alloc") (Two layout.size layout.align)
command_words (Release position) = words (codes "free") (One position)
command_words (Grow position old new) = words (codes "grow") (Five position old.size old.align new.size new.align)
command_words (Shrink position old new) = words (codes "shrink") (Five position old.size old.align new.size new.align)

-- the name of a refusal, as a reply's line has it
abbrev pub refusal_name : AllocationError → List ℕ
refusal_name refused.SizeIsZero = codes "SizeIsZero"
refusal_name refused.SizeTooLarge = codes "SizeTooLarge"
refusal_name refused.AlignmentFailure = codes "AlignmentFailure"
refusal_name refused.OutOfMemory = codes "OutOfMemory"

-- the line of a reply
abbrev pub reply_line : Reply → List ℕ
reply_line (reply.Chunk chunk) = words_then (codes "chunk") (Two chunk.place chunk.len) (codes "\n")
reply_line reply.Released = name_line (codes "released")
reply_line reply.Passed = name_line (codes "passed")
reply_line (reply.Refused error) = name_line (refusal_name error)
reply_line (reply.GrowRefused grow.GrowWouldShrink) = name_line (codes "GrowWouldShrink")
reply_line (reply.GrowRefused grow.AlignmentFailure) = name_line (codes "AlignmentFailure")
reply_line (reply.GrowRefused grow.OutOfMemory) = name_line (codes "OutOfMemory")
reply_line (reply.ShrinkRefused shrink.ShrinkWouldGrow) = name_line (codes "ShrinkWouldGrow")
reply_line (reply.ShrinkRefused shrink.AlignmentFailure) = name_line (codes "AlignmentFailure")
reply_line (reply.ShrinkRefused shrink.SizeIsZero) = name_line (codes "SizeIsZero")

-- an allocator, and its live list
pub record LiveState (A : Type 0) : Type 0 where
  pub allocator : A
  pub live : List Chunk

-- The rules of scripts that drive an allocator A, which a header O makes. The fields are those of
-- `Rules`; `runs` also has the live list before and after, and `state_text` how many chunks are
-- live.
pub record AllocatorRules (A O : Type 0) : Type 1 where
  pub name : List ℕ
  pub is_header : O → Type 0
  pub header_numbers : O → Numbers
  pub starts : O → A → Type 0
  pub runs : A → List Chunk → List Command → List Reply → A → List Chunk → Type 0
  pub state_text : A → ℕ → List ℕ

-- the rules of scripts by those of their allocator, which begins with nothing live
abbrev pub live_rules : {A O : Type 0} → AllocatorRules A O → Rules (LiveState A) O Command Reply
live_rules rules = record {
  name = rules.name;
  is_header = rules.is_header;
  header_numbers = rules.header_numbers;
  is_command = λ _. Unit {0};
  command_words = command_words;
  can_show = true;
  starts = λ header state. rules.starts header state.allocator × (state.live ≡ []);
  runs = λ old commands replies new. rules.runs old.allocator old.live commands replies new.allocator new.live;
  reply_text = reply_line;
  state_text = λ state. rules.state_text state.allocator (length state.live);
}

-- The replies are a run over the allocator's geometry, which doesn't change, and the allocator
-- stands for the live list that the run leaves.
pub record Runs {A G : Type 0} (geometry_of : A → G) (Steps : G → List Chunk → Command → Reply → List Chunk → Type 0)
    (stands_for : A → List Chunk → Type 0) (old : A) (live : List Chunk) (commands : List Command)
    (replies : List Reply) (new : A) (left : List Chunk) : Type 0 where
  pub run : IsRun (Steps (geometry_of old)) live commands replies left
  pub geometry : geometry_of new ≡ geometry_of old
  pub stands : stands_for new left

-- scripts of a bump, `bump START SIZE`
abbrev pub bump_rules : AllocatorRules Bump Bounds
bump_rules = record {
  name = codes "bump";
  is_header = λ bounds. IsRegion (region_of bounds);
  header_numbers = bounds_numbers;
  starts = λ bounds bump. bump ≡ record { region = region_of bounds; used = 0 };
  runs = Runs (λ bump. bump.region) (λ region. Step (bump_object region)) (λ bump. BumpStandsFor bump.region bump.used);
  state_text = λ bump _. (bump_text bump ++ codes "\n") ++ (codes "used " ++ (decimal bump.used
      ++ (codes " free " ++ (decimal (bump.region.size - bump.used)
      ++ (codes " total " ++ (decimal bump.region.size ++ codes "\n"))))));
}

-- how `show` says whether the one chunk is available, by the place that is kept
abbrev pub available_text : Option ℕ → List ℕ
available_text None = codes " available yes\n"
available_text (Some place) = codes " available no\n"

-- scripts of a one-chunk allocator, `one START SIZE`
abbrev pub one_chunk_rules : AllocatorRules OneChunk Bounds
one_chunk_rules = record {
  name = codes "one";
  is_header = λ bounds. IsRegion (region_of bounds);
  header_numbers = bounds_numbers;
  starts = λ bounds one. one ≡ record { region = region_of bounds; kept = None };
  runs = Runs (λ one. one.region) (λ region. ResizableStep (one_chunk_object region)) OneChunkStandsFor;
  state_text = λ one _. codes "one start " ++ (decimal one.region.start
      ++ (codes " size " ++ (decimal one.region.size ++ available_text one.kept)));
}

-- the region of the plan may be cut into its buckets
abbrev pub IsPoolPlan : PoolPlan → Type 0
IsPoolPlan plan = MayBeCut (region_at plan.start plan.size) plan.bucket

-- the numbers that a line has for a pool's plan
abbrev pub pool_numbers : PoolPlan → Numbers
pool_numbers plan = Four plan.start plan.size plan.bucket.size plan.bucket.align

-- The region is cut into all the buckets that it has room for, and the pool has those that `cut`
-- leaves of them. No bucket is held or was held before, and no index word was read.
abbrev pub BeginsWith : (PoolGeometry → PoolGeometry) → PoolPlan → CountedPool → Type 0
BeginsWith cut plan pool = (whole : PoolGeometry) × IsCut (region_at plan.start plan.size) plan.bucket whole
    × (pool ≡ counted (fresh_pool (cut whole)) 0 0)

-- a fresh pool with all the buckets that the region has room for
abbrev pub BeginsPool : PoolPlan → CountedPool → Type 0
BeginsPool = BeginsWith (λ whole. whole)

-- the replies are a run of the pool object over the pool's geometry
abbrev pub PoolRuns : Pool → List Chunk → List Command → List Reply → Pool → List Chunk → Type 0
PoolRuns = Runs (λ pool. pool.geometry) (λ geometry. ResizableStep (pool_object geometry)) PoolStandsFor

-- The replies are such a run, and the pool has counted the index words that the last request among
-- the commands reads, if there is one.
pub record CountedPoolRuns (old : CountedPool) (live : List Chunk) (commands : List Command)
    (replies : List Reply) (new : CountedPool) (left : List Chunk) : Type 0 where
  pub runs : PoolRuns old.pool live commands replies new.pool left
  pub reads : new.reads ≡ reads_after old.pool.geometry.bucket (index_words old.pool.geometry.buckets) old.reads commands

-- the state that `show` writes for either pool with `live` chunks, and then the rest of the line
abbrev pub pool_state : PoolGeometry → ℕ → List ℕ → List ℕ
pool_state geometry live rest =
    codes " size " ++ (decimal geometry.region.size ++ (codes " bucket " ++ (decimal geometry.bucket.size
    ++ (codes " align " ++ (decimal geometry.bucket.align ++ (codes " buckets " ++ (decimal geometry.buckets
    ++ (codes " live " ++ (decimal live ++ rest)))))))))

-- scripts of a pool, `pool START SIZE BUCKET ALIGN`
abbrev pub pool_rules : AllocatorRules CountedPool PoolPlan
pool_rules = record {
  name = codes "pool";
  is_header = IsPoolPlan;
  header_numbers = pool_numbers;
  starts = BeginsPool;
  runs = CountedPoolRuns;
  state_text = λ pool live. codes "pool start " ++ (decimal (first_place pool.pool.geometry.region pool.pool.geometry.bucket)
      ++ pool_state pool.pool.geometry live (codes " reads " ++ (decimal pool.reads ++ codes "\n")));
}

-- scripts of a pool of at most 512 buckets, `fixed START SIZE BUCKET ALIGN`
abbrev pub fixed_rules : AllocatorRules CountedPool PoolPlan
fixed_rules = record {
  name = codes "fixed";
  is_header = IsPoolPlan;
  header_numbers = pool_numbers;
  starts = BeginsWith (at_most 512);
  runs = λ old live commands replies new left. PoolRuns old.pool live commands replies new.pool left;
  state_text = λ pool live. codes "fixed" ++ pool_state pool.pool.geometry live (codes "\n");
}
