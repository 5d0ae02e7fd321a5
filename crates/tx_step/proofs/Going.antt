-- Where an attempt that was live before an event is live behind it, storage is as it was in all that it has touched.
use Rattle.std.proofs.Common.{◌≡◌, ℕ, ◌<◌, ◌/◌, true, sym, ap, ◌∙◌, subst, inl, inr}
use Rattle.std.specs.Prelude.{◌||◌, nat_lt}
use Rattle.std.proofs.lemmas.Bool.{cases_eq, both_ways}
use borrow.Enum.Arm.{by_way}
use Rattle.tx_journal.specs.Image.{cpu_of_event}
use Rattle.tx_journal.specs.declared.events.Event.{Event}
use Rattle.tx_journal.specs.declared.events.Event.TheVariants as event
use Rattle.tx_serial.specs.Flat.{FlatState}
use Rattle.tx_meaning.specs.Limits.{Setting}
use Rattle.tx_meaning.specs.Meaning.{IsSetting}
use Rattle.tx_meaning.specs.State.{is_live, cpus_of}
use Rattle.tx_meaning.specs.Turn.{Turned}
use Rattle.tx_keeping.specs.Kept.{Kept}
use Rattle.tx_keeping.specs.Turn.{k_happen}
use Rattle.tx_keeping.proofs.Truth.{same_flat}
use Rattle.tx_keeping.proofs.Moves.{IsGood}
use Rattle.tx_keeping.proofs.Turning.{happen_ok}
use Rattle.tx_machine.proofs.Others.{Left, others_event}
use Rattle.tx_machine.proofs.Own.{Own, own_event}

module _ (m : Setting) (s : IsSetting m) where
  module _ (e : Event) (k : Kept) (g : IsGood m k) (within : cpu_of_event e < cpus_of m) where
    abbrev next : Kept
    next = (k_happen m e k).kept

    -- the bytes that an attempt has touched are as they were
    abbrev Stays : ℕ → Type 0
    Stays j = (a : ℕ) → ((k.locals j).attempt.footprint.fetched (a / 256)
        || (k.locals j).attempt.footprint.stored (a / 256)) ≡ true → next.storage a ≡ k.storage a

    stays_own : (j : ℕ) → is_live next.state j ≡ true → Own m k next j → Stays j
    stays_own j lives (inl over) a is = absurd (both_ways (is_live next.state j) over lives)
    stays_own j lives (inr saw) a is =
        ap (λ (f : FlatState). f.storage a)
        (same_flat m next saw.mid (happen_ok m s e k g within).good.truth saw.truth saw.history)
        ∙ saw.keeps.bytes a is

    stays_left : (j : ℕ) → is_live k.state j ≡ true → is_live next.state j ≡ true
        → Left j (k.state.numbers j).completed next.state → Stays j
    stays_left j live lives (inl same) a is = ((happen_ok m s e k g within).keeps j live same).bytes a is
    stays_left j live lives (inr gone) a is =
        absurd (both_ways (is_live next.state j) (ap (nat_lt 0) gone) lives)

    pub goes_on_unchanged : (j : ℕ) → is_live k.state j ≡ true → is_live next.state j ≡ true → Stays j
    goes_on_unchanged j live lives = by_way (cases_eq j (cpu_of_event e))
        (λ is. stays_own j lives
        (subst (Own m k next) (sym is) (own_event m s e k g within (ap (is_live k.state) (sym is) ∙ live))))
        (λ ne. stays_left j live lives
        (subst (λ (t : Turned). Left j (k.state.numbers j).completed t.state) (happen_ok m s e k g within).is
        (others_event m e j k.state ne)))
