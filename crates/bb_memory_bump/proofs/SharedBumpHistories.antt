-- The chunks of a party in each list of steps that has its log.
use Rattle.bb_memory_bump_machine.proofs.BumpMeetings.{all_in_log}
use Rattle.bb_memory_bump_machine.proofs.OwnChunks.{interleaved_since}
use Rattle.bb_memory_bump_machine.specs.BumpLogs.{BumpLog, Interleaving, chunks_won, history_of, live_after}
use Rattle.bb_memory_bump_machine.specs.BumpMachine.{BumpScene}
use Rattle.bb_memory_traits.specs.Chunk.{Chunk}
use Rattle.std.proofs.Common.{List, subst, sym, ℕ}
use Rattle.std.proofs.lemmas.List.Elements.{All-contains_itself, Contains-append_right}
use Rattle.std.specs.List.{All, Contains}

-- a chunk that a party has won was won in each history that has its log
won_in_history : (scene : BumpScene) (position party : ℕ) (log : BumpLog) (history : Interleaving scene party log position) →
    All (Contains (chunks_won (history_of scene history.steps))) (chunks_won log)
won_in_history scene position party log history =
    let entries = history_of scene history.steps in
    let won = chunks_won entries in
    subst (λ (l : BumpLog). All (Contains won) (chunks_won l)) history.logged
    (all_in_log (Contains won) party entries (All-contains_itself won))

-- a held chunk is in the list that the history leaves
pub held_in_list : (scene : BumpScene) (live : List Chunk) (position party : ℕ) (log : BumpLog)
    (history : Interleaving scene party log position) →
    All (Contains (live_after scene live history.steps)) (chunks_won log)
held_in_list scene live position party log history =
    let won = chunks_won (history_of scene history.steps) in
    subst (λ (list : List Chunk). All (Contains list) (chunks_won log))
    (sym (interleaved_since scene position party log live history))
    (λ k d below. Contains-append_right live won _ (won_in_history scene position party log history k d below))
