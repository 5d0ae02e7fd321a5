-- Runs of one CPU on two flat states: what they show, and where the states have to agree for them to be the
-- same.
use Rattle.std.specs.Prelude.{◌≡◌, ℕ, nat_eq, true, List, Option}
use Rattle.std.specs.List.{list_any, flat_map}
use Rattle.z_regs.specs.Cpu.{Cpu}
use Rattle.z_regs.specs.Prefix.{absolute_of}
use Rattle.z_regs.specs.declared.ranges.Range.{Range}
use Rattle.z_instr.specs.Operands.{from_up}
use Rattle.z_instr.specs.Access.{text_pages, lies_in}
use Rattle.tx_control.specs.declared.begins.Begin.{Begin}
use Rattle.tx_constraint.specs.Constraints.{Step}
use Rattle.store_cache.specs.Overlay.{Store}
use Rattle.tx_serial.specs.Flat.{Storage, FlatState}
use Rattle.tx_serial.specs.Attempt.{Run, Mark}

-- all of a run but its copy of storage
pub record Track : Type 0 where
  pub cpu : Cpu
  pub stores : List Store
  pub lasting : List Store
  pub nest : List Begin
  pub touched : List Range
  pub steps : List Step
  pub mark : Mark

abbrev pub track_of : Run → Track
track_of p = record {
  cpu = p.cpu;
  stores = p.stores;
  lasting = p.lasting;
  nest = p.nest;
  touched = p.touched;
  steps = p.steps;
  mark = p.mark;
}

-- ---- what a run has touched, by real addresses

abbrev pub addresses_in : List Range → List ℕ
addresses_in ranges = flat_map (λ r. from_up r.first r.length) ranges

abbrev pub addresses_of : List Step → List ℕ
addresses_of steps = flat_map (λ s. addresses_in s.ranges) steps

abbrev pub touched_addresses : Run → List ℕ
touched_addresses p = addresses_of p.steps

-- ---- states that agree

-- the bytes at some real addresses are the same
abbrev pub AgreeAt : Option ℕ → List ℕ → Storage → Storage → Type 0
AgreeAt prefix addresses s t =
    (a : ℕ) → list_any (nat_eq a) addresses ≡ true → t (absolute_of prefix a) ≡ s (absolute_of prefix a)

-- the bytes of the text pages are the same
abbrev pub AgreeInText : Option ℕ → List ℕ → Storage → Storage → Type 0
AgreeInText prefix text s t =
    (a : ℕ) → lies_in (text_pages prefix text) a ≡ true → t (absolute_of prefix a) ≡ s (absolute_of prefix a)

-- two states are alike to a CPU that has touched some real addresses
pub record AreAlike (i : ℕ) (addresses : List ℕ) (f g : FlatState) : Type 0 where
  pub cpu : g.cpus i ≡ f.cpus i
  pub pages : g.text ≡ f.text
  pub text : AgreeInText (f.cpus i).prefix f.text f.storage g.storage
  pub touched : AgreeAt (f.cpus i).prefix addresses f.storage g.storage
