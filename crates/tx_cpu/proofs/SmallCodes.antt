-- The codes of exceptions by which plans and instructions end an attempt are small, so an interruption code has
-- room for one bit more.
use Rattle.std.proofs.Common.{◌≡◌, ℕ, Bool, true, false, List, [], ◌∷◌, Option, Some, None, sym, subst, lit<, length}
use Rattle.std.specs.Prelude.{◌&&◌, nat_le, nat_lt, if◌then◌else◌}
use Rattle.z_regs.specs.Absolute.{absolute_ranges}
use Rattle.z_regs.specs.declared.image.RunState.{RunState}
use Rattle.z_regs.specs.declared.image.RunState.TheVariants.{Running, Halted, Interrupted}
use Rattle.z_regs.specs.declared.ranges.Range.{Range}
use Rattle.z_instr.specs.declared.instr.Instr.{Instr}
use Rattle.z_instr.specs.Table.{entry_at}
use Rattle.z_instr.specs.Access.{accessible_pages, text_pages}
use Rattle.z_instr.specs.Roles.{begins}
use Rattle.z_instr.proofs.SmallCodes.{SmallCode, unspecified_code, inaccessible_code, fetch_code}
use Rattle.z_touch.specs.Refusals.{at_fetch}
use Rattle.z_effect.specs.After.{exception}
use Rattle.z_effect.specs.One.{length_of}
use Rattle.z_effect.specs.Outcome.{Outcome, Did, Divides, Aborts}
use Rattle.z_effect.specs.Outcome as outcome
use Rattle.z_effect.specs.TransactionEffect.{delay_given}
use Rattle.tx_control.specs.Codes.{fixed_point_overflow_code, fixed_point_divide_code}
use Rattle.tx_control.specs.declared.begins.Begin.{Begin}
use Rattle.tx_constraint.specs.Kept.{Kept, next_text_breach, next_operand_breach}
use Rattle.tx_footprint.specs.Touched.{touching}
use Rattle.tx_serial.specs.Flat.{Storage}
use Rattle.tx_serial.specs.Fate.{Refusal, Excepts, first_refusal, fetch_refusal, instruction_at, unreadable}
use Rattle.tx_serial.specs.Fate.{operands, is_restricted}
use Rattle.tx_serial.proofs.SmallCauses.{SmallRefusal, AreSmall, SmallEnd, excepted_small, restricted_small}
use Rattle.tx_serial.proofs.SmallCauses.{depth_small, overflow_small, first_small, refusal_small}
use Rattle.tx_serial.proofs.SmallCauses.{small_has_room, excepted_room}
use Rattle.tx_progress.specs.Progress.{Progress, is_live, advanced}
use Rattle.tx_progress.specs.Trial.{at_hand, breach_refusal, constraint_refusal, tried, fetched}
use Rattle.tx_progress.specs.Trial.{fate_by_progress, tests_by}
use Rattle.tx_progress.specs.Local.{Beside}
use Rattle.tx_progress.specs.Doing.{executed, executed_where, inside, outside, closed_by, told_of, stores_of}
use Rattle.tx_progress.specs.declared.done.Done.{Done}
use Rattle.tx_progress.specs.declared.done.Done.TheVariants as done
use Rattle.tx_cpu.specs.Plans.{HasPlanRoom, HasDoneRoom, fate_of}
use Rattle.tx_cpu.specs.declared.plan.Plan.{Plan}
use Rattle.tx_cpu.specs.declared.plan.Plan.TheVariants as plan

-- ---- what comes next

-- a constraint that is broken
constraint-small : (breach : Kept → Option ℕ) (i : Instr) (k : Option Kept)
    → SmallRefusal (constraint_refusal breach i k)
constraint-small breach i None = tt
constraint-small breach i (Some kept) = by (breach kept)
  where
    by : (o : Option ℕ) → SmallRefusal (breach_refusal i o)
    by None = tt
    by (Some number) = lit< tt

-- what the tests of an instruction find
tests-small : (text : List ℕ) (storage : Storage) (q : Progress) (i : Instr)
    → AreSmall (tests_by text storage q i)
tests-small text storage q i =
    let c = q.cpu in
    let e = entry_at i.op.number in (
      constraint-small (λ kept. next_text_breach kept i c.address) i q.constraint,
      (
        restricted_small (is_restricted q.nest e),
        (
          excepted_small i _ (unspecified_code e.demand e.operands i c.general (length q.nest)),
          (
            depth_small (begins e && nat_le 16 (length q.nest)),
            (
              excepted_small i _ (inaccessible_code e i c.general c.condition (length q.nest)
                  (accessible_pages c.prefix) (text_pages c.prefix text)),
              (
                constraint-small (λ kept. next_operand_breach kept i (operands i c)) i q.constraint,
                (overflow_small q.nest (touching q.footprint (absolute_ranges c.prefix (operands i c))), tt),
              ),
            ),
          ),
        ),
      ),
    )

-- an instruction with its tests
tried-small : (q : Progress) (i : Instr) (o : Option Refusal) → SmallRefusal o → SmallEnd (tried q i o)
tried-small q i None h = tt
tried-small q i (Some r) h = refusal_small q.nest r h

-- what is read as an instruction
fetched-small : (text : List ℕ) (storage : Storage) (q : Progress) (o : Option ℕ) (i : Option Instr)
    → SmallCode o → SmallEnd (fetched text storage q o i)
fetched-small text storage q (Some code) i h = refusal_small q.nest (Excepts (at_fetch code)) h
fetched-small text storage q None None h =
    refusal_small q.nest (Excepts (unreadable (at_hand storage q))) (lit< tt)
fetched-small text storage q None (Some i) h =
    tried-small q i (first_refusal (tests_by text storage q i))
    (first_small (tests_by text storage q i) (tests-small text storage q i))

-- whatever comes next
fate-small : (text : List ℕ) (storage : Storage) (q : Progress) → SmallEnd (fate_by_progress text storage q)
unfolding fate_by_progress
fate-small text storage q =
    fetched-small text storage q (fetch_refusal text (at_hand storage q)) (instruction_at (at_hand storage q))
    (fetch_code _ _ q.cpu.address _)

-- a plan of that has room
plan-room : (p : Plan) → SmallEnd (fate_of p) → HasPlanRoom p
plan-room (plan.Go instr need) h = tt
plan-room (plan.Ends why) h = small_has_room why h
plan-room (plan.Stops e) h = tt

-- a plan that tells what comes next has room
pub planned-room : (text : List ℕ) (storage : Storage) (q : Progress) (p : Plan)
    → fate_of p ≡ fate_by_progress text storage q → HasPlanRoom p
planned-room text storage q p e = plan-room p (subst SmallEnd (sym e) (fate-small text storage q))

-- ---- an instruction that was executed

-- an end of a transaction
closed-room : (q : Progress) (nest : List Begin) (b : Beside) → HasDoneRoom (closed_by q nest b).told
closed-room q [] b = tt
closed-room q (outermost ∷ inner) b = tt

-- a delay
paused-room : (b : Bool) (delay : ℕ) → HasDoneRoom (if b then done.Paused delay else done.Stepped)
paused-room true delay = tt
paused-room false delay = tt

-- what a CPU tells by its state
told-room : (state : RunState) (delay : ℕ) → HasDoneRoom (told_of state delay)
told-room (Interrupted code) delay = tt
told-room Running delay = paused-room (nat_lt 0 delay) delay
told-room Halted delay = paused-room (nat_lt 0 delay) delay

-- an instruction inside a transaction
inside-room : (i : Instr) (ranges : List Range) (b : Beside) (o : Outcome)
    → HasDoneRoom (inside i ranges b o).told
inside-room i ranges b (Did c bytes) =
    let q = b.local.attempt in
    let next = advanced i ranges c (stores_of ranges bytes q) q in
    closed-room next next.nest b
inside-room i ranges b (outcome.Overflowed c bytes) =
    excepted_room _ (exception fixed_point_overflow_code (length_of i)) (lit< tt)
inside-room i ranges b Divides = excepted_room _ (exception fixed_point_divide_code (length_of i)) (lit< tt)
inside-room i ranges b (Aborts code) = tt

-- one inside or outside
where-room : (live begin : Bool) (i : Instr) (ranges : List Range) (b : Beside) (o : Outcome)
    → HasDoneRoom (executed_where live begin i ranges b o).told
where-room true begin i ranges b o = inside-room i ranges b o
where-room false true i ranges b o = tt
where-room false false i ranges b o =
    told-room (outside i ranges b o).local.cpu.state (delay_given i b.local.cpu)

-- one that was executed
pub executed-room : (i : Instr) (ranges : List Range) (b : Beside) (told : Done)
    → told ≡ (executed i ranges b).told → HasDoneRoom told
unfolding executed
executed-room i ranges b told e =
    subst HasDoneRoom (sym e)
    (where-room (is_live b.local.attempt) (begins (entry_at i.op.number)) i ranges b _)
