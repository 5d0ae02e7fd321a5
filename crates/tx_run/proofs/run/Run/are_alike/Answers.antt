-- Neither CPU has a live attempt, and the eight bytes are the same before the first step and in the other storage.
use Rattle.std.proofs.Common.{◌≡◌, ap, ◌∙◌}
use Rattle.std.proofs.lemmas.Bool.{eqb-true}
use Rattle.byteorder.specs.Endian.{big_bytes}
use Rattle.tx_progress.specs.Progress.{seen_through}
use Rattle.tx_cpu.specs.Parts.{Parts, local_of}
use Rattle.tx_marks.specs.Own.{given}
use Rattle.tx_run.proofs.Doublewords.{rests-so, seen-alike}
use Rattle.tx_run.proofs.run.Run.are_alike.Goals as goal

pub returns-clause-alike : goal.returns-clause-alike
returns-clause-alike g c = λ same a low high touched.
    let own = c.args.self.now.made.own in
    let q = (local_of c.start-start.result.now).attempt in
    let other = (local_of c.args.other.now).attempt in
    let number : c.before-2.result ≡ c.word.result = eqb-true c.before-2.result c.word.result same in
    let rests = rests-so q _ _ c.live.ensures c.is_some.ensures c.if-is_some.false in
    let others = rests-so other _ _ c.live-else-is_some.ensures c.is_some-else-is_some.ensures c.if-is_some-2.false in
    seen-alike own (g.V.Bytes.bytes c.args.base.now) (big_bytes 8 c.before-2.result) c.args.address c.before-2.ensures
    (ap (big_bytes 8) number ∙ c.word.ensures.bytes) q other a (c.is_sound.ensures.rests rests)
    (c.is_sound-2.ensures.rests others) low high touched
    ∙ ap (λ (p : Parts). seen_through (local_of p).attempt.overlay (given own) a) c.start-start.ensures
