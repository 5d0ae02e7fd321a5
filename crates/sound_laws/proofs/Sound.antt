-- Every entry of a machine's history is sound, so no other history of the image has its text.
use Rattle.std.proofs.Common.{◌≡◌, ℕ, ◌<◌, ◌≤◌, List, get_or, subst, arith, length}
use Rattle.std.specs.Prelude.{All}
use Rattle.tx_journal.specs.Content.{Content}
use Rattle.tx_journal.specs.Lines.{history_text}
use Rattle.tx_journal.specs.Sound.{IsSound}
use Rattle.tx_journal.specs.declared.entries.Entry.{Entry}
use Rattle.tx_journal.specs.declared.entries.Entry.TheVariants.{Step, Commit, Abort, Tdb, Interrupt}
use Rattle.tx_journal.specs.declared.events.Event.{Event}
use Rattle.tx_serial.specs.Changes.{cpu_of_entry}
use Rattle.tx_serial.specs.History.{IsLegal}
use Rattle.tx_meaning.specs.Limits.{Setting, turn_limit}
use Rattle.tx_meaning.specs.Meaning.{IsSetting, meaning}
use Rattle.tx_meaning.specs.Views.{AreKnown}
use Rattle.tx_keeping.proofs.Events.{legal}
use Rattle.history_laws.proofs.Histories.{one_history}
use Rattle.sound_laws.specs.Parts.{HasCause, HasAtMost}
use Rattle.sound_laws.proofs.Legal.{known_cpus, sound_causes}
use Rattle.sound_laws.proofs.Turns.{took_turns}

-- the parts make an entry sound
joined : (e : Entry) (cpus most : ℕ) → cpus ≤ 16 → most ≤ turn_limit → cpu_of_entry e < cpus → HasCause e
    → HasAtMost most e → IsSound e
joined (Step i) cpus most few low there cause count = omega (arith, few, there)
joined (Commit i n) cpus most few low there cause count =
    (omega (arith, few, there), omega (arith, low, count))
joined (Abort i n why) cpus most few low there cause count =
    (omega (arith, few, there), omega (arith, low, count), cause)
joined (Tdb i) cpus most few low there cause count = omega (arith, few, there)
joined (Interrupt i) cpus most few low there cause count = omega (arith, few, there)

-- every entry of the history is sound
pub all_sound : (m : Setting) (events : List Event) → IsSetting m → AreKnown m events
    → All IsSound (meaning m events).history
all_sound m events setting known =
    let image = setting.image in
    let history = (meaning m events).history in
    let is_legal = legal m setting events known in
    let cpus = known_cpus m.image history image is_legal in
    let causes = sound_causes m.image history image is_legal in
    let counts = took_turns m events setting known in
    λ k d lt. joined (get_or history k d) (length m.image.cpus) m.limits.turns image.few_cpus
    setting.limits.few_turns (cpus k d lt) (causes k d lt) (counts k d lt)

-- no other legal history with sound entries has the text
pub told_alone : (m : Setting) (events : List Event) (history : List Entry) → IsSetting m → AreKnown m events
    → IsLegal m.image history → All IsSound history
    → history_text history ≡ history_text (meaning m events).history → history ≡ (meaning m events).history
told_alone m events history setting known is_legal sound same =
    one_history m.image history (meaning m events).history is_legal (legal m setting events known) sound
    (all_sound m events setting known) same

-- nor has another history of a machine with this image
pub machines_told : (m other : Setting) (events others : List Event) → IsSetting m → IsSetting other
    → other.image ≡ m.image → AreKnown m events → AreKnown other others
    → history_text (meaning other others).history ≡ history_text (meaning m events).history
    → (meaning other others).history ≡ (meaning m events).history
machines_told m other events others setting also image known there same =
    told_alone m events (meaning other others).history setting known
    (subst (λ (c : Content). IsLegal c (meaning other others).history) image (legal other also others there))
    (all_sound other others also there) same
