-- A run without steps that gets a line.
use Rattle.std.proofs.Common.{◌≡◌, ℕ, ◌/◌, Bool, true, false, List, refl, sym, ap, ◌∙◌, arith}
use Rattle.std.specs.Prelude.{nat_eq, if◌then◌else◌}
use Rattle.std.specs.List.{list_any}
use Rattle.std.proofs.lemmas.Bool.{true≢false}
use Rattle.std.proofs.lemmas.Bool.Decides.{nat_tests}
use Rattle.z_instr.specs.Access.{lies_in}
use Rattle.tx_progress.specs.Local.{Beside}
use Rattle.tx_cpu.specs.Parts.{local_of}
use Rattle.tx_marks.specs.Away.{ran, touched}
use Rattle.tx_marks.specs.Own.{is_touched, bytes_at}
use Rattle.tx_marks.specs.Marks.{mode_in}
use Rattle.tx_run.specs.Made.{Made, from, needs_by, laid, paged, IsMade}
use Rattle.tx_marks.specs.Traces.{is_stored, is_paged}
use Rattle.tx_run.proofs.Beginning.{loaded-made}

-- a byte of a text page lies in no line of another page
not-in-line : (text : List ℕ) (line a : ℕ) → list_any (nat_eq (line / 16)) text ≡ false → lies_in text a ≡ true
    → nat_eq (a / 256) line ≡ false
not-in-line text line a free is = by (nat_eq (a / 256) line) refl
  where
    by : (b : Bool) → nat_eq (a / 256) line ≡ b → nat_eq (a / 256) line ≡ false
    by true e =
        let same : a / 4096 ≡ line / 16 = grind (arith, nat_tests, e) in
        absurd (true≢false (sym is ∙ ap (λ p. list_any (nat_eq p) text) same ∙ free))
    by false e = e

pub lined-made : (text image : List ℕ) (m other : Made) (line : ℕ) (bytes : ℕ → ℕ) → IsMade text image m
    → m.steps ≡ 0 → other.steps ≡ m.steps → other.start ≡ m.start → other.reached ≡ m.reached
    → other.own.touched ≡ m.own.touched → other.traces ≡ m.traces → other.needed ≡ m.needed
    → list_any (nat_eq (line / 16)) text ≡ false
    → ((a : ℕ) → bytes_at other.own.now a ≡ (if nat_eq (a / 256) line then bytes a else bytes_at m.own.now a))
    → IsMade text image other
unfolding ran touched laid paged needs_by
lined-made text image m other line bytes made none steps start reached marks traces needed free is =
    loaded-made text image other
    (ap (λ p. local_of p) reached
    ∙ sym (ap (λ (b : Beside). b.local) (ap (λ k. ran text k (from m)) (sym none) ∙ made.makes))
    ∙ ap (λ p. local_of p) (sym start))
    (steps ∙ none)
    (λ a. ap (λ t. is_touched record { now = m.own.now; before = m.own.before; touched = t } a) marks ∙ made.marks a
    ∙ ap (λ k. touched text k (from m) a) none)
    record {
      stored = λ a. ap (λ t. is_stored t a) traces ∙ made.stored a ∙ ap (λ k. laid text k (from m) a) none;
      pages = λ page. ap (λ t. is_paged t page) traces ∙ made.pages page
          ∙ ap (λ k. paged text k (from m) page) none;
    }
    (λ l. ap (λ n. mode_in n l) needed ∙ made.needs l ∙ ap (λ k. needs_by text k (from m) l) none)
    (λ a in-text. is a
    ∙ ap (λ b. if b then bytes a else bytes_at m.own.now a) (not-in-line text line a free in-text) ∙ made.now a in-text)
