-- What the code keeps of a nest: with each level the controls that are in force there.
use Rattle.std.specs.Prelude.{◌≡◌, ℕ, ◌+◌, ◌<◌, ◌≤◌, true, ◌&&◌, List, length, take, get_or, max}
use Rattle.tx_control.specs.declared.begins.Begin.{Begin}
use Rattle.tx_control.specs.declared.nesting.Controls.{Controls}
use Rattle.tx_control.specs.Nesting.{effective_a, effective_f, effective_pifc}

abbrev pub unlimited : Controls
unlimited = record { a = true; f = true; pifc = 0 }

abbrev pub limited_by : Controls → Begin → Controls
limited_by outside b = record { a = outside.a && b.a; f = outside.f && b.f; pifc = max outside.pifc b.pifc }

abbrev pub in_force : List Begin → Controls
in_force open_begins =
    record { a = effective_a open_begins; f = effective_f open_begins; pifc = effective_pifc open_begins }

-- there is room for sixteen levels, and each that is open has the controls of all begins up to it
pub record Keeps (begins : List Begin) (controls : List Controls) (depth : ℕ) : Type 0 where
  pub fits : depth ≤ 16
  pub begins_room : length begins ≡ 16
  pub controls_room : length controls ≡ 16
  pub kept : (level : ℕ) → level < depth
      → get_or controls level unlimited ≡ in_force (take (level + 1) begins)
