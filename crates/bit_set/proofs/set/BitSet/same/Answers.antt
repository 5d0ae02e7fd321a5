use Rattle.std.proofs.Common.{ap, sym, ◌∙◌}
use Rattle.std.specs.Cmp.Lexicographic.{bytes_decides}
use Rattle.bit_set.specs.Bits.{bits_of}
use Rattle.bit_set.proofs.Marks.{same_words}
use Rattle.bit_set.proofs.set.BitSet.same.Goals as goal

pub returns : goal.returns
returns c =
    let equal = bytes_decides c.self.inside.words.items c.other.inside.words.items in (
      λ yes. sym c.self.view_is ∙ ap bits_of (equal.0 (sym c.eq.ensures ∙ yes)) ∙ c.other.view_is,
      λ same. c.eq.ensures
          ∙ equal.1 (same_words _ _ c.self.invariant.fits c.other.invariant.fits (c.self.view_is ∙ same
          ∙ sym c.other.view_is)),
    )
