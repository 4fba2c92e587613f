-- Several tests at once.
-- Assumes nothing.
use Rattle.std.specs.Prelude.{Bool, true, ◌&&◌}
use mathlib.Core.List.{List, foldl}

-- each test of the list holds
unfoldable pub all_hold : List Bool → Bool
all_hold bs = foldl ◌&&◌ true bs
