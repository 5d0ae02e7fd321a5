-- What one instruction more changes of what is kept of a run.
use Rattle.std.specs.Prelude.{◌≡◌, ◌≢◌, ◌<◌, ◌≤◌, true, false, length, List, [], All, Ok}
use Rattle.z_regs.specs.Prefix.{storage_size}
use Rattle.z_instr.specs.Roles.{begins}
use Rattle.tx_constraint.specs.Octowords.{with_octowords}
use Rattle.tx_footprint.specs.Places.{IsInStorage}
use Rattle.z_regs.specs.Cpu.{cpu_of}
use Rattle.z_regs.specs.declared.ranges.Range.{Range}
use Rattle.z_instr.specs.declared.instr.Instr.{Instr}
use Rattle.z_instr.specs.Table.{entry_at}
use Rattle.z_effect.specs.One.{length_of}
use Rattle.z_effect.specs.After.{AreInside, ranges_of, storage_after}
use Rattle.tx_control.specs.Nesting.{is_constrained}
use Rattle.tx_control.specs.declared.begins.Begin.{Begin}
use Rattle.tx_constraint.specs.Kept.{kept_at, added}
use Rattle.tx_footprint.specs.Touched.{sets_of, touching, fit_of}
use Rattle.tx_serial.specs.Attempt as run
use Rattle.tx_serial.specs.Run.{nest_after, mark_in}
use Rattle.z_instr.specs.Roles.{stores_lastingly}
use Rattle.tx_private.specs.declared.attempt.Attempt.{Attempt}
use Rattle.tx_private.specs.declared.execution.Completion.{Completion}
use Rattle.tx_private.specs.declared.execution.Completion.TheVariants.{Completed, Overflowed, Divides, Aborts}
use Rattle.tx_private.specs.Done.{outcome_at, IsExecuted}
use Rattle.tx_private.specs.Shows.{mark_of}

-- the mark behind an instruction that has done all
abbrev pub mark_behind : Completion → List Begin → run.Mark
mark_behind Completed nest = mark_in nest
mark_behind Overflowed nest = run.Overflowed
mark_behind Divides nest = run.Missing
mark_behind (Aborts code) nest = run.Missing

-- the instruction was executed, and all that is kept beside has gone on
pub record HasMoved (i : Instr) (touches absolute : List Range) (done : Completion) (a b : Attempt) : Type 0
  where
    pub executed : IsExecuted (length a.nest) i (cpu_of a.image) (cpu_of b.image) a.seen b.seen done
    pub lasting : stores_lastingly (entry_at i.op.number) ≡ true → b.lasting
        ≡ storage_after (ranges_of i (cpu_of a.image)) a.lasting
        (outcome_at (length a.nest) i (cpu_of a.image) a.lasting)
    pub same_lasting : stores_lastingly (entry_at i.op.number) ≡ false → b.lasting ≡ a.lasting
    pub sets : sets_of b.footprint ≡ touching (sets_of a.footprint) absolute
    pub limit : a.nest ≡ [] → b.constraint ≡ kept_at a.image.address
    pub further : is_constrained a.nest ≡ true → b.constraint ≡ added a.constraint touches
    pub begin : a.nest ≡ [] → b.begin ≡ record { at = a.image.address; length = length_of i }
    pub same_begin : a.nest ≢ [] → b.begin ≡ a.begin
    pub last_at : b.last.at ≡ a.image.address
    pub last_length : b.last.length ≡ length_of i
    pub nest : b.nest ≡ nest_after i a.image.general a.nest
    pub mark : mark_of b.mark ≡ mark_behind done b.nest

-- what has to hold of what is kept for the instruction to go: its operands lie in storage, there is room for
-- one begin more and for what it touches, and the constraints admit it
pub record MayGo (i : Instr) (touches absolute : List Range) (a : Attempt) : Type 0 where
  pub size : length a.seen ≡ storage_size
  pub lasting_size : length a.lasting ≡ storage_size
  pub inside : AreInside (ranges_of i (cpu_of a.image)) a.seen
  pub lasting_inside : AreInside (ranges_of i (cpu_of a.image)) a.lasting
  pub room : begins (entry_at i.op.number) ≡ true → length a.nest < 16
  pub in_storage : All IsInStorage absolute
  pub fits : a.nest ≢ [] → fit_of (touching (sets_of a.footprint) absolute) ≡ Ok tt
  pub none : a.nest ≡ [] → absolute ≡ []
  pub few : is_constrained a.nest ≡ true → a.constraint.count ≤ 32
  pub admitted : is_constrained a.nest ≡ true → length (with_octowords a.constraint.octowords touches) ≤ 4
