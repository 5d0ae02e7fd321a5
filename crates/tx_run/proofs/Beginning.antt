-- A run without steps.
use Rattle.std.proofs.Common.{◌≡◌, ℕ, false, List, None, sym, ap, ◌∙◌, arith}
use Rattle.z_regs.specs.Cpu.{started}
use Rattle.tx_serial.specs.Apply.{is_running}
use Rattle.tx_serial.specs.Text.{SameText}
use Rattle.tx_progress.specs.Local.{Local, settled}
use Rattle.std.specs.Prelude.{if◌then◌else◌}
use Rattle.tx_cpu.specs.Parts.{local_of}
use Rattle.tx_marks.specs.Away.{ran, touched}
use Rattle.tx_marks.specs.Own.{Own, given, is_touched, bytes_at}
use Rattle.tx_marks.specs.Marks.{mode_in}
use Rattle.tx_run.specs.Made.{Made, from, needs_by, laid, paged, IsMade}
use Rattle.tx_marks.specs.Traces.{Traces, is_stored, is_paged}
use Rattle.tx_run.specs.Lent.{IsLent}

-- there are no traces
pub record NoTraces (t : Traces) : Type 0 where
  pub stored : (a : ℕ) → is_stored t a ≡ false
  pub pages : (page : ℕ) → is_paged t page ≡ false

pub begun-made : (text image : List ℕ) (m : Made) → local_of m.reached ≡ local_of m.start → m.steps ≡ 0
    → ((a : ℕ) → bytes_at m.own.now a ≡ given m.own a) → ((a : ℕ) → is_touched m.own a ≡ false)
    → NoTraces m.traces → ((line : ℕ) → mode_in m.needed line ≡ None)
    → SameText text (bytes_at image) (given m.own) → IsMade text image m
unfolding ran touched laid paged needs_by
begun-made text image m reached none bytes bare traces free same = record {
  makes = ap (λ n. ran text n (from m)) none ∙ (λ j. record { local = sym reached j; storage = λ a. sym (bytes a) j });
  away = λ j below. absurd (omega (arith, below, none));
  marks = λ a. bare a ∙ sym (ap (λ n. touched text n (from m) a) none);
  stored = λ a. traces.stored a ∙ sym (ap (λ n. laid text n (from m) a) none);
  pages = λ page. traces.pages page ∙ sym (ap (λ n. paged text n (from m) page) none);
  needs = λ line. free line ∙ sym (ap (λ n. needs_by text n (from m) line) none);
  given = same;
  now = λ a is. bytes a ∙ same a is;
  count = let c = ap (λ (l : Local). l.attempt.count) reached in omega (arith, c);
}

-- where nothing is touched, the bytes are those before
untouched-given : (o : Own) → ((a : ℕ) → is_touched o a ≡ false) → (a : ℕ) → given o a ≡ bytes_at o.now a
untouched-given o bare a = ap (λ b. if b then bytes_at o.before a else bytes_at o.now a) (bare a)

pub loaded-made : (text image : List ℕ) (m : Made) → local_of m.reached ≡ local_of m.start → m.steps ≡ 0
    → ((a : ℕ) → is_touched m.own a ≡ false) → NoTraces m.traces → ((line : ℕ) → mode_in m.needed line ≡ None)
    → SameText text (bytes_at image) (bytes_at m.own.now) → IsMade text image m
loaded-made text image m reached none bare traces free same =
    begun-made text image m reached none (λ a. sym (untouched-given m.own bare a)) bare traces free
    (λ a is. untouched-given m.own bare a ∙ same a is)

-- a run that was lent nothing yet
pub opened-lent : (text bytes : List ℕ) (m : Made) → local_of m.start ≡ settled (started 0)
    → local_of m.reached ≡ settled (started 0) → m.steps ≡ 0 → m.own.now ≡ bytes
    → ((a : ℕ) → is_touched m.own a ≡ false) → NoTraces m.traces → ((line : ℕ) → mode_in m.needed line ≡ None)
    → IsLent text bytes 0 m
opened-lent text bytes m start reached none same bare traces free = record {
  made = loaded-made text bytes m (reached ∙ sym start) none bare traces free (λ a is. ap (λ b. bytes_at b a) same);
  few = omega (arith, none);
  most = omega arith;
  counted = let c : (local_of m.start).attempt.count ≡ 0 = ap (λ (l : Local). l.attempt.count) start in
      omega (arith, c);
  runs = ap (λ (l : Local). is_running l.attempt.cpu.state) start;
}
