-- What a hand's view of a deque says, and a deque whose seats are being given.
use Rattle.std.specs.Prelude.{◌≡◌, ◌≤◌}
use Rattle.pool.specs.declared.view.View.{View}
use Rattle.pool.specs.Rule.{view_of}

-- The view of an owner after it looked at what others know: the end marks that it is owed did not
-- become fewer
abbrev pub Looked : View → View → Type 0
Looked v w = (w ≡ view_of v.filling v.owner w.ends v.made v.numbers v.known) × (v.ends ≤ w.ends)
