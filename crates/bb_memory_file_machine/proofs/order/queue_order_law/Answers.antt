use Rattle.bb_memory_file_machine.proofs.QueueChances.{is_full, may_post, take_now}
use Rattle.bb_memory_file_machine.proofs.QueueHistories.{again_sent, history_of}
use Rattle.bb_memory_file_machine.proofs.QueueOrder.{held_always, in_order_always, in_slot_always, looked_always, numbered_always, one_sender_always, ordered_always, received_always, shorter_always}
use Rattle.bb_memory_file_machine.proofs.QueueSingles.{one_slot_obeys}
use Rattle.bb_memory_file_machine.proofs.order.queue_order_law.Goals as goal

pub returns-clause-histories : goal.returns-clause-histories
returns-clause-histories c = history_of

pub returns-clause-again : goal.returns-clause-again
returns-clause-again c = again_sent

pub returns-clause-in_slot : goal.returns-clause-in_slot
returns-clause-in_slot c = λ queue history posted positive. in_slot_always queue positive history posted

pub returns-clause-held : goal.returns-clause-held
returns-clause-held c = λ queue history slot lap bucket positive. held_always queue positive history slot lap bucket

pub returns-clause-ordered : goal.returns-clause-ordered
returns-clause-ordered c = λ queue history positive. ordered_always queue positive history

pub returns-clause-shorter : goal.returns-clause-shorter
returns-clause-shorter c = λ queue history positive. shorter_always queue positive history

pub returns-clause-received : goal.returns-clause-received
returns-clause-received c = λ queue history step slot bucket party positive.
    received_always queue positive history step slot bucket party

pub returns-clause-numbered : goal.returns-clause-numbered
returns-clause-numbered c = λ queue history process slot lap positive. numbered_always queue positive history process slot lap

pub returns-clause-in_order : goal.returns-clause-in_order
returns-clause-in_order c = λ queue history moment step older younger positive.
    in_order_always queue positive history moment step older younger

pub returns-clause-looked : goal.returns-clause-looked
returns-clause-looked c = λ queue history moment process party slot bucket lap older younger positive.
    looked_always queue positive history moment process party slot bucket lap older younger

pub returns-clause-one_sender : goal.returns-clause-one_sender
returns-clause-one_sender c = λ queue history first second post again step process older younger positive.
    one_sender_always queue positive history first second post again step process older younger

pub returns-clause-may_post : goal.returns-clause-may_post
returns-clause-may_post c = λ queue history lap positive. may_post queue positive history lap

pub returns-clause-full : goal.returns-clause-full
returns-clause-full c = λ queue history lap bucket positive. is_full queue positive history lap bucket

pub returns-clause-may_take : goal.returns-clause-may_take
returns-clause-may_take c = λ queue history posted positive whole obey waits oldest.
    take_now queue positive history whole obey posted waits oldest

pub returns-clause-one_slot : goal.returns-clause-one_slot
returns-clause-one_slot c = λ queue history single. one_slot_obeys queue single history
