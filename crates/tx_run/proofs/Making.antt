-- One instruction more is made, and all steps are so many turns still.
use Rattle.std.proofs.Common.{◌≡◌, ℕ, suc, ◌+◌, ◌<◌, ◌≤◌, true, List, ◌++◌, Option}
use Rattle.std.proofs.Common.{sym, ap, subst, ◌∙◌, arith, length}
use Rattle.std.specs.Prelude.{◌||◌, All}
use Rattle.std.proofs.lemmas.List.Elements.{All-weaker}
use Rattle.z_regs.specs.Prefix.{is_prefix}
use Rattle.z_regs.specs.declared.ranges.Range.{Range}
use Rattle.z_instr.specs.declared.instr.Instr.{Instr}
use Rattle.line_table.specs.declared.table.Mode.{Mode}
use Rattle.tx_marks.specs.Asking.{is_there}
use Rattle.tx_marks.specs.Needs.{operand_needs}
use Rattle.tx_marks.specs.Need.{Need}
use Rattle.tx_serial.specs.Fate.{Fate, Goes}
use Rattle.tx_serial.specs.Text.{SameText}
use Rattle.tx_progress.specs.Doing.{executed}
use Rattle.tx_progress.specs.Local.{Beside}
use Rattle.tx_progress.specs.Progress.{is_live}
use Rattle.tx_progress.specs.declared.done.Done.TheVariants.{Stepped}
use Rattle.tx_cpu.specs.Parts.{local_of}
use Rattle.tx_marks.specs.Away.{ran, GoAway, GoesAway, touched, lent_turn, lent_by, is_plain, turn_places, fate_places}
use Rattle.tx_marks.specs.Places.{is_among, text_places, operand_places, stored_places}
use Rattle.tx_marks.proofs.Along.{go_by}
use Rattle.tx_marks.specs.Own.{is_touched, bytes_at}
use Rattle.tx_marks.specs.Traces.{is_stored, is_paged, has_page}
use Rattle.tx_marks.specs.Marks.{mode_in, with_needs}
use Rattle.tx_run.specs.Made.{Made, from, now, needs_by, turn_needs, fate_needs, IsMade, StartsAlike, OneMade, next_fate}
use Rattle.tx_run.specs.Made.{laid, turn_lays, fate_lays, paged, turn_traces}
use Rattle.tx_marks.proofs.MarksNeeded.{needs-there, there-stays}
use Rattle.tx_run.proofs.Frame.{keeps-text, counted}

-- with more lines it still goes away
more-held : (text : List ℕ) (held more : ℕ → Option Mode) (b : Beside)
    → ((line : ℕ) (mode : Mode) → is_there mode (held line) ≡ true → is_there mode (more line) ≡ true)
    → GoesAway text held b → GoesAway text more b
more-held text held more b there goes = record {
  instr = goes.instr;
  ranges = goes.ranges;
  goes = goes.goes;
  plain = goes.plain;
  told = goes.told;
  lines = All-weaker (λ (need : Need). is_there need.mode (held need.line) ≡ true)
      (λ (need : Need). is_there need.mode (more need.line) ≡ true) (λ need h. there need.line need.mode h) _ goes.lines;
}

module _ (text image : List ℕ) (m other : Made) (i : Instr) (ranges : List Range) (made : IsMade text image m)
    (alike : StartsAlike m other) (more : other.steps ≡ suc m.steps) (goes : next_fate text m ≡ Goes i ranges)
    (plain : is_plain i ≡ true) (told : (executed i ranges (now m)).told ≡ Stepped) (one : OneMade i ranges m other)
    (opens : is_live (local_of m.reached).attempt ≡ true → 0 < length (local_of m.reached).attempt.nest)
    (area : is_prefix (local_of m.reached).attempt.cpu.prefix ≡ true) where
  abbrev b : Beside
  b = from m

  abbrev k : ℕ
  k = m.steps

  abbrev needs : List Need
  needs = operand_needs (local_of m.reached).attempt.cpu.prefix ranges

  same-from : from other ≡ b
  same-from = λ j. record { local = local_of (alike.start j); storage = λ a. alike.given a j }

  made-more : ran text (suc k) b ≡ now other
  unfolding ran
  made-more =
      ap (lent_turn text) made.makes ∙ ap (λ (f : Fate). lent_by f (now m)) goes ∙ sym one.now

  held-as : (line : ℕ) (mode : Mode) → is_there mode (mode_in m.needed line) ≡ true
      → is_there mode (mode_in other.needed line) ≡ true
  held-as line mode h =
      ap (is_there mode) (one.needed line) ∙ there-stays needs (mode_in m.needed) line mode h

  lines-there : All (λ (need : Need). is_there need.mode (mode_in other.needed need.line) ≡ true) needs
  lines-there =
      All-weaker (λ (need : Need). is_there need.mode (with_needs needs (mode_in m.needed) need.line) ≡ true)
      (λ (need : Need). is_there need.mode (mode_in other.needed need.line) ≡ true)
      (λ need h. ap (is_there need.mode) (one.needed need.line) ∙ h) needs (needs-there needs (mode_in m.needed))

  goes-now : GoesAway text (mode_in other.needed) (now m)
  goes-now = record {
    instr = i;
    ranges = ranges;
    goes = goes;
    plain = plain;
    told = told;
    lines = lines-there;
  }

  away-more : GoAway text (mode_in other.needed) (suc k) b
  away-more =
      go_by text (mode_in other.needed) k b
      (λ j below. more-held text (mode_in m.needed) (mode_in other.needed) (ran text j b) held-as (made.away j below))
      (subst (GoesAway text (mode_in other.needed)) (sym made.makes) goes-now)

  marks-more : (a : ℕ) → is_touched other.own a ≡ touched text (suc k) b a
  unfolding touched
  marks-more a =
      one.touched a
      ∙ ap (λ t. t || is_among (text_places (bytes_at m.own.now) (local_of m.reached).attempt
      ++ operand_places ranges (local_of m.reached).attempt) a) (made.marks a)
      ∙ ap (λ (f : Fate). touched text k b a
      || is_among (text_places (bytes_at m.own.now) (local_of m.reached).attempt
      ++ fate_places f (local_of m.reached).attempt) a) (sym goes)
      ∙ ap (λ (n : Beside). touched text k b a || is_among (turn_places text n) a) (sym made.makes)

  stored-more : (a : ℕ) → is_stored other.traces a ≡ laid text (suc k) b a
  unfolding laid
  stored-more a =
      one.stored a
      ∙ ap (λ t. t || is_among (stored_places ranges (local_of m.reached).attempt) a) (made.stored a)
      ∙ ap (λ (f : Fate). laid text k b a || is_among (fate_lays f (local_of m.reached).attempt) a) (sym goes)
      ∙ ap (λ (n : Beside). laid text k b a || is_among (turn_lays text n) a) (sym made.makes)

  pages-more : (page : ℕ) → is_paged other.traces page ≡ paged text (suc k) b page
  unfolding paged
  pages-more page =
      one.pages page
      ∙ ap (λ t. t || has_page (text_places (bytes_at m.own.now) (local_of m.reached).attempt
      ++ stored_places ranges (local_of m.reached).attempt) page) (made.pages page)
      ∙ ap (λ (f : Fate). paged text k b page
      || has_page (text_places (bytes_at m.own.now) (local_of m.reached).attempt
      ++ fate_lays f (local_of m.reached).attempt) page) (sym goes)
      ∙ ap (λ (n : Beside). paged text k b page || has_page (turn_traces text n) page) (sym made.makes)

  needs-more : (line : ℕ) → mode_in other.needed line ≡ needs_by text (suc k) b line
  unfolding needs_by
  needs-more line =
      one.needed line
      ∙ ap (λ (f : ℕ → Option Mode). with_needs needs f line) (λ j l. made.needs l j)
      ∙ ap (λ (f : Fate). with_needs (fate_needs f (local_of m.reached).attempt) (needs_by text k b) line) (sym goes)
      ∙ ap (λ (n : Beside). with_needs (turn_needs text n) (needs_by text k b) line) (sym made.makes)

  text-more : SameText text (bytes_at image) (bytes_at other.own.now)
  text-more a is =
      ap (λ (n : Beside). n.storage a) one.now ∙ keeps-text text i ranges (now m) plain opens area goes a is
      ∙ made.now a is

  count-more : (local_of other.reached).attempt.count ≤ (local_of other.start).attempt.count + suc k
  count-more =
      let c : (local_of other.reached).attempt.count ≤ (local_of m.reached).attempt.count + 1 =
      subst (λ (n : Beside). n.local.attempt.count ≤ (local_of m.reached).attempt.count + 1) (sym one.now)
      (counted i ranges (now m) plain told) in
      let before = made.count in
      let same : (local_of other.start).attempt.count ≡ (local_of m.start).attempt.count =
      ap (λ (p : Beside). p.local.attempt.count) same-from in
      omega (arith, c, before, same)

  pub one-more-made : IsMade text image other
  one-more-made = record {
    makes = ap (λ (c : Beside). ran text other.steps c) same-from ∙ ap (λ s. ran text s b) more ∙ made-more;
    away = subst (λ s. GoAway text (mode_in other.needed) s (from other)) (sym more)
        (subst (GoAway text (mode_in other.needed) (suc k)) (sym same-from) away-more);
    marks = λ a. marks-more a ∙ ap (λ s. touched text s b a) (sym more)
        ∙ ap (λ (c : Beside). touched text other.steps c a) (sym same-from);
    stored = λ a. stored-more a ∙ ap (λ s. laid text s b a) (sym more)
        ∙ ap (λ (c : Beside). laid text other.steps c a) (sym same-from);
    pages = λ page. pages-more page ∙ ap (λ s. paged text s b page) (sym more)
        ∙ ap (λ (c : Beside). paged text other.steps c page) (sym same-from);
    needs = λ line. needs-more line ∙ ap (λ s. needs_by text s b line) (sym more)
        ∙ ap (λ (c : Beside). needs_by text other.steps c line) (sym same-from);
    given = λ a is. alike.given a ∙ made.given a is;
    now = text-more;
    count = subst (λ s. (local_of other.reached).attempt.count ≤ (local_of other.start).attempt.count + s) (sym more)
        count-more;
  }
