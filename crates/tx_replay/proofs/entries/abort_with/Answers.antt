use Rattle.std.proofs.Common.{◌≡◌, Some, sym, ap, ◌∙◌}
use Rattle.tx_journal.specs.Lines.{entry_text}
use Rattle.tx_flat.specs.Machine.{state_of}
use Rattle.tx_replay.proofs.EntryNumbers.{by_reading}
use Rattle.std.proofs.lemmas.Option.{same_Some}
use Rattle.tx_replay.proofs.entries.abort_with.Goals as goal

pub returns-in-None-clause-only : goal.returns-in-None-clause-only
returns-in-None-clause-only c = λ e sound is fits.
    sym c.in-None.is
    ∙ by_reading (state_of c.args.flat.now) c.args.line.now c.args.text c.abort_of.result
    c.requires.spells c.abort_of.ensures.only e sound is fits

pub returns-in_ok-found-in-Some-clause-only : goal.returns-in_ok-found-in-Some-clause-only
returns-in_ok-found-in-Some-clause-only c = λ e sound is fits.
    let there : Some c.in-Some.entry ≡ Some e =
    sym c.in-Some.is
    ∙ by_reading (state_of c.args.flat.now) c.args.line.now c.args.text c.abort_of.result
    c.requires.spells c.abort_of.ensures.only e sound is fits in
    c.in_ok-found-in-Some.ensures.only (ap entry_text (same_Some _ _ there) ∙ is) ∙ there
