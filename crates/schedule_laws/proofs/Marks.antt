-- Events as text: what bytes they have, and how many.
use Rattle.std.proofs.Common.{◌≡◌, ℕ, suc, ◌+◌, ◌*◌, ◌<◌, ◌≤◌, ◌^◌, Bool, true, List, [], ◌∷◌, ◌++◌}
use Rattle.std.proofs.Common.{length, map, get_or, refl, ap, arith, lit<, length-append}
use Rattle.std.specs.Prelude.{All, codes}
use Rattle.std.specs.List.{list_all}
use Rattle.std.specs.Char.{to_ascii_uppercase}
use Rattle.std.specs.Fmt.{decimal}
use Rattle.std.specs.Int.{IsInRange}
use Rattle.std.proofs.lemmas.Bool.{and_from}
use Rattle.std.proofs.lemmas.Fmt.{length-decimal-le}
use Rattle.tx_journal.specs.Image.{cpu_of_event}
use Rattle.tx_journal.specs.Schedule.{event_text, further_text, events_text}
use Rattle.tx_journal.specs.declared.events.Event.{Event}
use Rattle.tx_journal.specs.declared.events.Event.TheVariants.{Turn, External}
use Rattle.listing_laws.proofs.Numbers.{digits_are, all_by, capitals}
use Rattle.listing_laws.proofs.Words.{map_over, all_over}

-- each event is of a CPU below a number
abbrev pub AreBelow : ℕ → List Event → Type 0
AreBelow n [] = Unit {0}
AreBelow n (e ∷ es) = (cpu_of_event e < n) × AreBelow n es

pub all_below : (n : ℕ) (es : List Event) → All (λ e. cpu_of_event e < n) es → AreBelow n es
all_below n [] h = tt
all_below n (e ∷ es) h = (h 0 e (omega arith), all_below n es (λ i d l. h (suc i) d (omega arith)))

pub fewer : (n k : ℕ) → n ≤ k → (es : List Event) → AreBelow n es → AreBelow k es
fewer n k le [] h = tt
fewer n k le (e ∷ es) h = (omega (arith, h.0), fewer n k le es h.1)

pub small : (n : ℕ) → n < 16 → n < 2 ^ 64
small n low = omega arith

hundred : (n : ℕ) → n < 16 → n < 10 ^ 2
hundred n low = omega arith

-- ---- a test that digits and X pass, and the comma

pub event_passes : (p : ℕ → Bool) → ((b : ℕ) → IsInRange 48 57 b → p b ≡ true) → p 88 ≡ true
    → (e : Event) → cpu_of_event e < 16 → list_all p (event_text e) ≡ true
event_passes p digit x (Turn cpu) low = all_by p digit (decimal cpu) (digits_are cpu (small cpu low))
event_passes p digit x (External cpu) low =
    and_from _ _ x (all_by p digit (decimal cpu) (digits_are cpu (small cpu low)))

further_pass : (p : ℕ → Bool) → ((b : ℕ) → IsInRange 48 57 b → p b ≡ true) → p 88 ≡ true → p 44 ≡ true
    → (es : List Event) → AreBelow 16 es → list_all p (further_text es) ≡ true
further_pass p digit x comma [] low = refl
further_pass p digit x comma (e ∷ es) low =
    all_over p (44 ∷ event_text e) (further_text es)
    (and_from _ _ comma (event_passes p digit x e low.0)) (further_pass p digit x comma es low.1)

pub events_pass : (p : ℕ → Bool) → ((b : ℕ) → IsInRange 48 57 b → p b ≡ true) → p 88 ≡ true → p 44 ≡ true
    → (es : List Event) → AreBelow 16 es → list_all p (events_text es) ≡ true
events_pass p digit x comma [] low = refl
events_pass p digit x comma (e ∷ es) low =
    all_over p (event_text e) (further_text es)
    (event_passes p digit x e low.0) (further_pass p digit x comma es low.1)

-- ---- capitals

event_capital : (e : Event) → cpu_of_event e < 16 → map to_ascii_uppercase (event_text e) ≡ event_text e
event_capital (Turn cpu) low = capitals (decimal cpu) (digits_are cpu (small cpu low))
event_capital (External cpu) low =
    ap (λ (t : List ℕ). 88 ∷ t) (capitals (decimal cpu) (digits_are cpu (small cpu low)))

further_capital : (es : List Event) → AreBelow 16 es → map to_ascii_uppercase (further_text es) ≡ further_text es
further_capital [] low = refl
further_capital (e ∷ es) low =
    map_over to_ascii_uppercase (44 ∷ event_text e) (further_text es)
    (ap (λ (t : List ℕ). 44 ∷ t) (event_capital e low.0)) (further_capital es low.1)

pub events_capital : (es : List Event) → AreBelow 16 es
    → map to_ascii_uppercase (events_text es) ≡ events_text es
events_capital [] low = refl
events_capital (e ∷ es) low =
    map_over to_ascii_uppercase (event_text e) (further_text es) (event_capital e low.0)
    (further_capital es low.1)

-- ---- how many bytes

event_short : (e : Event) → cpu_of_event e < 16 → length (event_text e) ≤ 3
event_short (Turn cpu) low =
    omega (arith, length-decimal-le 2 cpu (lit< tt) (hundred cpu low) (small cpu low))
event_short (External cpu) low =
    omega (arith, length-decimal-le 2 cpu (lit< tt) (hundred cpu low) (small cpu low))

further_short : (es : List Event) → AreBelow 16 es → length (further_text es) ≤ 4 * length es
further_short [] low = omega arith
further_short (e ∷ es) low =
    omega (
      arith,
      event_short e low.0,
      further_short es low.1,
      length-append (44 ∷ event_text e) (further_text es),
    )

pub events_short : (es : List Event) → AreBelow 16 es → length (events_text es) ≤ 4 * length es
events_short [] low = omega arith
events_short (e ∷ es) low =
    omega (
      arith,
      event_short e low.0,
      further_short es low.1,
      length-append (event_text e) (further_text es),
    )
