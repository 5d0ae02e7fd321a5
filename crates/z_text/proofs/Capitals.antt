-- A line without small letters is read as it stands.
use Rattle.std.proofs.Common.{◌≡◌, ℕ, true, not, List, [], ◌∷◌, refl, ap, ◌∙◌, arith}
use Rattle.std.specs.List.{list_all}
use Rattle.std.specs.Char.{is_ascii_lowercase, to_ascii_uppercase}
use Rattle.std.proofs.lemmas.Grind.{common_steps}
use Rattle.z_text.specs.Line.{as_read}
use Rattle.std.proofs.lemmas.Bool.{and_parts}

byte_as_it_is : (b : ℕ) → not (is_ascii_lowercase b) ≡ true → to_ascii_uppercase b ≡ b
byte_as_it_is b h = grind (arith, common_steps)

pub read_as_it_is : (text : List ℕ) → list_all (λ b. not (is_ascii_lowercase b)) text ≡ true →
    as_read text ≡ text
read_as_it_is [] h = refl
read_as_it_is (b ∷ bs) h =
    let both = and_parts _ _ h in
    ap (λ c. c ∷ as_read bs) (byte_as_it_is b both.0) ∙ ap (λ cs. b ∷ cs) (read_as_it_is bs both.1)
