-- What a whole input, or one that is too long, says of the bytes that the source had left.
use Rattle.std.proofs.Common.{◌∙◌, ℕ, List, [], ◌++◌, length, Option, Some, None, ap, arith}
use Rattle.std.proofs.Common.{append-nil, refl}
use Rattle.std.proofs.lemmas.List.{length-append}
use Rattle.ztx_io.specs.Reads.{ReadsWhole, PassesLimit}
use Rattle.ztx_top.specs.Answers.{IsInput, IsLong}

-- the bytes that were read are the input
pub whole_input : (most : ℕ) (left after : Option (List ℕ)) (bytes : List ℕ)
    → ReadsWhole most left after bytes → IsInput left bytes
whole_input most None after bytes whole = tt
whole_input most (Some l) None bytes whole = absurd whole.1
whole_input most (Some l) (Some r) bytes whole = whole.1 ∙ ap (λ r. bytes ++ r) whole.2 ∙ append-nil bytes

-- an input that the source may have left
pub given : Option (List ℕ) → List ℕ
given None = []
given (Some l) = l

pub given_is : (left : Option (List ℕ)) → IsInput left (given left)
unfolding given
given_is None = tt
given_is (Some l) = refl

-- the source had more than these bytes left
pub long_input : (most : ℕ) (left after : Option (List ℕ)) → PassesLimit most left after → IsLong most left
long_input most None after passes = record { input = passes.0; is_input = tt; long = passes.2 }
long_input most (Some l) None passes = absurd passes.1
long_input most (Some l) (Some r) passes = record {
  input = l;
  is_input = refl;
  long = omega (arith, ap length passes.1, length-append passes.0 r, passes.2);
}
