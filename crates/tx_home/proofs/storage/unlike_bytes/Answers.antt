use Rattle.std.proofs.Common.{◌≡◌, Some, sym, ◌∙◌}
use Rattle.std.specs.Prelude.{◌&&◌}
use Rattle.std.proofs.lemmas.Bool.{lt-ltb}
use Rattle.tx_works.specs.Parts.{local_of}
use Rattle.tx_works.specs.Owned.{storage_in}
use Rattle.tx_works.specs.Own.{given, is_touched}
use Rattle.tx_works.specs.Progress.{seen_through}
use Rattle.tx_home.specs.Places.{at_byte}
use Rattle.tx_home.specs.declared.place.Place.TheVariants.{Byte}
use Rattle.tx_home.proofs.Firsts.{below-found, below-none, at-same, at-other, only-marked, where-marked}
use Rattle.tx_home.proofs.storage.unlike_bytes.Goals as goal

pub returns-in_err-difference-clause-value : goal.returns-in_err-difference-clause-value
returns-in_err-difference-clause-value c =
    let r = c.args.run.now in
    c.from_residual.ensures
    ∙ below-none (at_byte r (local_of c.args.cpu.now) (storage_in c.args.lines.now)) 1048576
    (λ a below. only-marked (is_touched r.made.own a) _
    (λ touched. at-same (Byte a) _ _ (c.first_difference.ensures.none c.in_err-difference.was a touched)))

pub returns-clause-value : goal.returns-clause-value
returns-clause-value c =
    let r = c.args.run.now in
    let local = local_of c.args.cpu.now in
    let storage = storage_in c.args.lines.now in
    let d = c.in_ok-difference in
    let a = d.difference.address in
    let marked = is_touched r.made.own in
    let kept : c.from.result ≡ seen_through local.attempt.overlay storage a = c.from.ensures ∙ d.ensures.kept in
    let before : c.from-2.result ≡ seen_through (local_of r.made.start).attempt.overlay (given r.made.own) a =
    c.from-2.ensures ∙ d.ensures.given in
    (λ x. Some (record { place = Byte a; kept = kept x; given = before x }))
    ∙ below-found (at_byte r local storage) 1048576 a _ d.ensures.within
    (λ j low. only-marked (marked j) _
    (λ touched. at-same (Byte j) _ _ (d.ensures.first j (λ x. lt-ltb j a low x && touched x))))
    (where-marked (marked a) _ _ d.ensures.touched
    (at-other (Byte a) _ _ (λ same. d.ensures.differs (d.ensures.kept ∙ same ∙ sym d.ensures.given))))
