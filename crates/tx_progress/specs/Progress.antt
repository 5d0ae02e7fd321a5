-- How far an attempt has come: all of a private run that its later steps and its end need, without its copy
-- of storage and without the list of its instructions.
use Rattle.std.specs.Prelude.{ℕ, ◌+◌, Bool, if◌then◌else◌, fold, nat_lt, List, [], Option, Some, None}
use Rattle.std.specs.Prelude.{unwrap_or}
use Rattle.z_regs.specs.Cpu.{Cpu}
use Rattle.z_regs.specs.Absolute.{absolute_ranges}
use Rattle.z_regs.specs.declared.ranges.Range.{Range}
use Rattle.z_instr.specs.declared.instr.Instr.{Instr}
use Rattle.z_instr.specs.Table.{entry_at}
use Rattle.z_effect.specs.One.{length_of}
use Rattle.z_effect.specs.Beginning as beginning
use Rattle.tx_control.specs.declared.begins.Begin.{Begin}
use Rattle.tx_constraint.specs.Kept.{Kept, kept_at, added}
use Rattle.tx_footprint.specs.Touched.{Sets, untouched, touching}
use Rattle.tx_serial.specs.Overlay.{Overlay, Store, nothing, with_one}
use Rattle.tx_serial.specs.Flat.{Storage}
use Rattle.tx_serial.specs.Run.{nest_after, lasting_of}

-- ---- stores over storage

-- more bytes are stored, one after the other
abbrev pub laying : Overlay → List Store → Overlay
laying overlay stores = fold (λ o store. with_one o store.address store.byte) overlay stores

-- storage with what an overlay holds in place of its own bytes
abbrev pub seen_through : Overlay → Storage → Storage
seen_through overlay storage address = unwrap_or (overlay address) (storage address)

-- ---- the progress of an attempt

-- The CPU as it is now; the last byte that the attempt stored at each absolute address, and the last one that
-- NTSTG stored there; the open begins, oldest first; the lines and blocks that it has touched; for a
-- constrained attempt what its constraints ask; where the program goes on after an abort; and how many
-- instructions are completed, the begin among them. Of a CPU without an attempt this number is 0.
pub record Progress : Type 0 where
  pub cpu : Cpu
  pub overlay : Overlay
  pub lasting : Overlay
  pub nest : List Begin
  pub footprint : Sets
  pub constraint : Option Kept
  pub resumes_at : ℕ
  pub count : ℕ

-- a CPU without an attempt
abbrev pub resting : Cpu → Progress
resting c = record {
  cpu = c;
  overlay = nothing;
  lasting = nothing;
  nest = [];
  footprint = untouched;
  constraint = None;
  resumes_at = 0;
  count = 0;
}

abbrev pub is_live : Progress → Bool
is_live q = nat_lt 0 q.count

-- ---- one instruction more

abbrev pub begins_constrained : Instr → Bool
begins_constrained i = beginning.is_constrained (entry_at i.op.number).demand

-- the first instruction is the begin, which is none of those that constraints speak of
abbrev pub constraint_after : ℕ → Instr → List Range → ℕ → Option Kept → Option Kept
constraint_after count i ranges at old = if nat_lt 0 count then more old else first (begins_constrained i)
  where
    more : Option Kept → Option Kept
    more None = None
    more (Some kept) = Some (added kept ranges)

    first : Bool → Option Kept
    first constrained = if constrained then Some (kept_at at) else None

-- behind TBEGIN, or at TBEGINC again
abbrev pub resumed_after : ℕ → Instr → ℕ → ℕ → ℕ
resumed_after count i at old =
    if nat_lt 0 count then old else (if begins_constrained i then at else at + length_of i)

-- the instruction has left this CPU and made these stores
abbrev pub advanced : Instr → List Range → Cpu → List Store → Progress → Progress
advanced i ranges c stores q = record {
  cpu = c;
  overlay = laying q.overlay stores;
  lasting = laying q.lasting (lasting_of i stores);
  nest = nest_after i q.cpu.general q.nest;
  footprint = touching q.footprint (absolute_ranges q.cpu.prefix ranges);
  constraint = constraint_after q.count i ranges q.cpu.address q.constraint;
  resumes_at = resumed_after q.count i q.cpu.address q.resumes_at;
  count = q.count + 1;
}
