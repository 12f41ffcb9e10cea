-- How a task lies in a deque.
use Rattle.std.specs.Prelude.{ℕ, zero, suc}
use Rattle.pool.specs.declared.view.Task.{Task}
use Rattle.pool.specs.declared.view.Task.TheVariants.{Number, End}

-- The task of a code: 0 is an end mark, and n + 1 the number n.
abbrev pub task_of : ℕ → Task
task_of zero = End
task_of (suc n) = Number n
