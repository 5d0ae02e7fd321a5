-- What a range of a reader of numbers of 64 bits comes to.
use Rattle.std.proofs.Common.{◌≡◌, ℤ, subst, Some}
use Rattle.std.specs.Prelude.{pos}
use Rattle.clap.specs.Words.{NarrowsTo}
use Rattle.clap.specs.declared.builder.value_parser.ValueParser.{ValueParser}
use Rattle.clap.specs.declared.builder.value_parser.ValueParser.TheVariants as parser

-- the widest reader, narrowed to a range whose ends are known, reads what it narrows to there
module _ (whole narrowed : ValueParser) (first last : ℤ)
    (narrows : NarrowsTo whole (Some first) (Some last) narrowed)
    (is : whole ≡ parser.Unsigned 0 18446744073709551615) where
  at_ends : (low high : ℤ) → first ≡ low → last ≡ high
      → NarrowsTo (parser.Unsigned 0 18446744073709551615) (Some low) (Some high) narrowed
  at_ends low high starts ends =
      let any = parser.Unsigned 0 18446744073709551615 in
      subst (λ (b : ℤ). NarrowsTo any (Some low) (Some b) narrowed) ends
      (subst (λ (a : ℤ). NarrowsTo any (Some a) (Some last) narrowed) starts
      (subst (λ (p : ValueParser). NarrowsTo p (Some first) (Some last) narrowed) is narrows))

  pub ranged_turns : first ≡ pos 1 → last ≡ pos 200000 → narrowed ≡ parser.Unsigned 1 200000
  ranged_turns starts ends = at_ends (pos 1) (pos 200000) starts ends

  pub ranged_tick : first ≡ pos 0 → last ≡ pos 1000000 → narrowed ≡ parser.Unsigned 0 1000000
  ranged_tick starts ends = at_ends (pos 0) (pos 1000000) starts ends

  pub ranged_steps : first ≡ pos 1 → last ≡ pos 20000 → narrowed ≡ parser.Unsigned 1 20000
  ranged_steps starts ends = at_ends (pos 1) (pos 20000) starts ends

  pub ranged_origin : first ≡ pos 0 → last ≡ pos 1040384 → narrowed ≡ parser.Unsigned 0 1040384
  ranged_origin starts ends = at_ends (pos 0) (pos 1040384) starts ends
