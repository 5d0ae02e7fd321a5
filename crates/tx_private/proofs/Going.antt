-- A run with one instruction more, by the outcome of the instruction.
use Rattle.std.proofs.Common.{◌≡◌, ℕ, true, false, List, [], ◌∷◌, refl, sym, ap}
use Rattle.std.proofs.Common.{◌∙◌, length}
use Rattle.z_regs.specs.Cpu.{Cpu, cpu_of}
use Rattle.z_regs.specs.Prefix.{storage_size, is_prefix}
use Rattle.z_regs.specs.Absolute.{absolute_ranges}
use Rattle.z_regs.specs.declared.ranges.Range.{Range}
use Rattle.z_instr.specs.declared.instr.Instr.{Instr}
use Rattle.z_instr.specs.Table.{entry_at}
use Rattle.z_effect.specs.Outcome.{Outcome, Did, Divides, Aborts}
use Rattle.z_effect.specs.Outcome as outcome
use Rattle.z_effect.specs.After.{touched, ranges_of, cpu_after, storage_after}
use Rattle.z_effect.proofs.Prefix.{keeps_prefix}
use Rattle.tx_control.specs.declared.begins.Begin.{Begin}
use Rattle.tx_serial.specs.Flat.{Storage}
use Rattle.tx_serial.specs.Attempt.{Run}
use Rattle.tx_serial.specs.Attempt as run
use Rattle.tx_serial.specs.Fate.{Passes, operands}
use Rattle.tx_serial.specs.Run.{after, outcome_of, nest_after, may_follow, mark_in}
use Rattle.z_instr.specs.Roles.{stores_lastingly}
use Rattle.tx_private.specs.declared.attempt.Attempt as kept
use Rattle.tx_private.specs.declared.execution.Completion.{Completion}
use Rattle.tx_private.specs.Done.{completion_of, outcome_at}
use Rattle.tx_private.specs.Shows.{Shows, IsRun, mark_of, is_empty}
use Rattle.tx_private.specs.Moved.{HasMoved, mark_behind}
use Rattle.tx_private.proofs.Inside.{inside}
use Rattle.tx_private.proofs.Moving.{shows_next, none_refuses}
use Rattle.tx_private.proofs.Settled.{same_outcome, same_doing}

open_nest : (n : List Begin) → mark_in n ≡ run.Open → is_empty n ≡ false
open_nest [] h = absurd (cc)
open_nest (b ∷ bs) h = refl

module _ (base : Storage) (text : List ℕ) (a b : kept.Attempt) (p : Run) (i : Instr) (absolute : List Range)
    (done : Completion) (shows : Shows base a p) (passes : Passes text p i (operands i p.cpu))
    (ok : is_prefix p.cpu.prefix ≡ true) (open_mark : p.mark ≡ run.Open) (follows : may_follow p.nest i ≡
    true)
    (moved : HasMoved i (operands i p.cpu) absolute done a b)
    (places : absolute ≡ absolute_ranges p.cpu.prefix (operands i p.cpu)) (size : length a.seen ≡
    storage_size)
    (lasting_size : length a.lasting ≡ storage_size) where
  -- the outcome as the code has it
  abbrev made : Outcome
  made = outcome_at (length a.nest) i (cpu_of a.image) a.seen

  same_made : made ≡ outcome_of i (operands i p.cpu) p
  same_made =
      ap (λ (n : List Begin). outcome_at (length n) i (cpu_of a.image) a.seen) shows.nest
      ∙ ap (λ (d : Cpu). outcome_at (length p.nest) i d a.seen) (sym shows.cpu)
      ∙ same_outcome i p a.seen ok shows.copy (inside text p i a.seen size (none_refuses text p i
      passes.passed).on_operands)

  same_nest : b.nest ≡ nest_after i p.cpu.general p.nest
  same_nest =
      moved.nest ∙ ap (nest_after i a.image.general) shows.nest
      ∙ ap (λ (d : Cpu). nest_after i d.general p.nest) (sym shows.cpu)

  marked : (o : Outcome) → made ≡ o → mark_of b.mark
      ≡ mark_behind (completion_of o) (nest_after i p.cpu.general p.nest)
  marked o e =
      moved.mark ∙ ap (λ d. mark_behind d b.nest) (moved.executed.answer ∙ ap completion_of e)
      ∙ ap (mark_behind (completion_of o)) same_nest

  prefix_by : (o : Outcome) → made ≡ o → (cpu_after (cpu_of a.image) o).prefix ≡ p.cpu.prefix
  prefix_by o e =
      ap (λ q. (cpu_after (cpu_of a.image) q).prefix) (sym e)
      ∙ keeps_prefix i (cpu_of a.image) (length a.nest) (touched (ranges_of i (cpu_of a.image)) a.seen)
      ∙ ap (λ (d : Cpu). d.prefix) (sym shows.cpu)

  image_by : (o : Outcome) → made ≡ o → cpu_after (cpu_of a.image) o ≡ cpu_of b.image
  image_by o e = sym (moved.executed.image ∙ ap (cpu_after (cpu_of a.image)) e)

  seen_by_outcome : (o : Outcome) → made ≡ o → b.seen ≡ storage_after (ranges_of i p.cpu) a.seen o
  seen_by_outcome o e =
      moved.executed.storage ∙ ap (storage_after (ranges_of i (cpu_of a.image)) a.seen) e
      ∙ ap (λ (d : Cpu). storage_after (ranges_of i d) a.seen o) (sym shows.cpu)

  lasting_by : (o : Outcome) → made ≡ o → stores_lastingly (entry_at i.op.number) ≡ true
      → b.lasting ≡ storage_after (ranges_of i p.cpu) a.lasting o
  lasting_by o e h =
      moved.lasting h
      ∙ ap (storage_after (ranges_of i (cpu_of a.image)) a.lasting)
      (same_doing (length a.nest) i (cpu_of a.image) a.lasting a.seen h ∙ e)
      ∙ ap (λ (d : Cpu). storage_after (ranges_of i d) a.lasting o) (sym shows.cpu)

  goes_by : (o : Outcome) → made ≡ o → IsRun base b (after i (operands i p.cpu) p o)
  goes_by (Did c bytes) e = record {
    mark = marked (Did c bytes) e;
    shows = λ there.
        shows_next base text a b p i absolute done c bytes (mark_in (nest_after i p.cpu.general p.nest))
        shows passes ok
        open_mark follows moved places size lasting_size (image_by (Did c bytes) e) (prefix_by (Did c bytes)
        e)
        (seen_by_outcome (Did c bytes) e) (lasting_by (Did c bytes) e) (marked (Did c bytes) e)
        (open_nest (nest_after i p.cpu.general p.nest));
  }
  goes_by (outcome.Overflowed c bytes) e = record {
    mark = marked (outcome.Overflowed c bytes) e;
    shows = λ there.
        shows_next base text a b p i absolute done c bytes run.Overflowed shows passes ok open_mark follows
        moved places
        size lasting_size (image_by (outcome.Overflowed c bytes) e) (prefix_by (outcome.Overflowed c bytes) e)
        (seen_by_outcome (outcome.Overflowed c bytes) e) (lasting_by (outcome.Overflowed c bytes) e)
        (marked (outcome.Overflowed c bytes) e) (λ no. absurd (never no));
  }
    where
      never : run.Overflowed ≡ run.Open → ⊥
      never h = cc
  goes_by Divides e = record { mark = marked Divides e; shows = λ there. absurd (there refl) }
  goes_by (Aborts code) e = record { mark = marked (Aborts code) e; shows = λ there. absurd (there refl) }

  pub goes_on : IsRun base b (after i (operands i p.cpu) p (outcome_of i (operands i p.cpu) p))
  goes_on = goes_by (outcome_of i (operands i p.cpu) p) same_made
