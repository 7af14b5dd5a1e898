use Rattle.std.specs.Prelude.{Some}
use Rattle.thread_tests.proofs.tests.threads.queues.threads_pool_queue.Given as goal

abbrev pub ghosts-send_and_receive : goal.ghosts-send_and_receive
ghosts-send_and_receive g a = record { pool = Some a.pool.now }
