use Rattle.bb_memory_base.proofs.runs.run.Given as goal
use Rattle.bb_memory_base.specs.Runs.{AllocatorStep, EachGiven}
use Rattle.bb_memory_traits.specs.Chunk.{Fits}
use Rattle.bb_memory_traits.specs.Object.{IsRun, note_after_run}
use Rattle.std.proofs.Common.{length, take, vec_capacity, vec_len, ◌+◌, ◌≡◌, ◌≤◌}

-- the commands so far are a run, and there is room for what is left
abbrev pub invariant-loop-command : goal.invariant-loop-command
invariant-loop-command g l =
    let A = g.A.BaseAllocator in
    record {
      run : IsRun (AllocatorStep (g.C.Applier.Steps l.fn.allocator) A.takes A.frees)
          (l.fn.allocator, l.fn.live.items) (take l.command-index l.commands) l.replies.items (l.allocator, l.live.items);
      fits : EachGiven (Fits (A.region_of (A.geometry l.fn.allocator))) (take l.command-index l.commands) l.replies.items;
      stands : A.stands_for l.allocator l.live.items;
      geometry : A.geometry l.allocator ≡ A.geometry l.fn.allocator;
      note : A.note l.allocator
          ≡ note_after_run (A.note_after (A.geometry l.fn.allocator)) (A.note l.fn.allocator) (take l.command-index l.commands);
      room : vec_len l.live + length l.commands ≤ vec_capacity l.live + l.command-index;
      told : vec_len l.replies ≡ l.command-index;
      space : length l.commands ≤ vec_capacity l.replies;
    }
