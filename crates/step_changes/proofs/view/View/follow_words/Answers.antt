-- Only lines that are looked at have other words.
use Rattle.std.proofs.Common.{◌≡◌, ◌⊎◌, ◌/◌, ◌∙◌, true, sym, ap, subst, get_or}
use Rattle.step_changes.specs.Seen.{Sight, word_at}
use Rattle.step_changes.specs.Stored.{is_among}
use Rattle.step_changes.proofs.Looked.{looked_at}
use Rattle.step_changes.proofs.view.View.follow_words.Goals as goal

pub note_lines-requires-clause-others : goal.note_lines-requires-clause-others
note_lines-requires-clause-others g c w d low =
    let v = g.S.Shows.shown c.args.machine.now in
    let view = c.args.self.now in
    let storage = v.bytes in
    let words : c.deref_mut.result.now ≡ view.words =
    c.deref_mut.ensures.value ∙ ap (λ (x : Sight). x.words) c.self.view_is in
    subst (λ l. (is_among c.deref.result.now (w / 32) ≡ true) ⊎ (get_or l w d ≡ word_at storage w)) (sym words)
    (subst (λ l. (is_among l (w / 32) ≡ true) ⊎ (get_or view.words w d ≡ word_at storage w))
    (sym c.deref.ensures.value)
    (looked_at v view c.args.asked.now c.args.stored.now c.in_ok-lines.lines.items c.requires.same
    c.requires.others c.in_ok-lines.ensures w d low))
