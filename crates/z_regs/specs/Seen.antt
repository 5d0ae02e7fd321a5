-- Storage by a CPU's real addresses.
use Rattle.std.specs.Prelude.{ℕ, ◌+◌, List, ◌++◌, take, drop, slice_range, Option, None, Some}
use Rattle.z_regs.specs.Prefix.{area_size}

-- Storage as a CPU sees it: the first area and that of its prefix have changed places.
unfoldable pub seen_by : Option ℕ → List ℕ → List ℕ
seen_by None s = s
seen_by (Some p) s =
    slice_range s p (p + area_size) ++ slice_range s area_size p ++ take area_size s ++ drop (p + area_size) s
