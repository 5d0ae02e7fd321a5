-- Halfwords and doublewords in hexadecimal.
use Rattle.std.proofs.Common.{◌≡◌, ℕ, ◌<◌, ◌^◌, zero, suc, List, Result, Ok, arith, sym, ap, ◌∙◌, refl}
use Rattle.std.specs.Int.{to_be_bytes, from_be_bytes, bytes_high_first}
use mir.Syntax.{w16, w64}
use Rattle.std.proofs.lemmas.Nat.{from_be_bytes-to_be_bytes_2, from_be_bytes-to_be_bytes_8}
use Rattle.hex.specs.declared.error.FromHexError.{FromHexError}
use Rattle.hex.specs.Hex.{encode_lower, decode_sized, IsBytes}
use Rattle.hex.proofs.HexLemmas.{decode_sized-encode_lower}
use Rattle.z_regs.proofs.Items.{byte_small}

pub high_first_bytes : (k n : ℕ) → IsBytes (bytes_high_first k n)
high_first_bytes zero n i = omega arith
high_first_bytes (suc k) n zero = byte_small k n
high_first_bytes (suc k) n (suc i) = high_first_bytes k n i

-- what is written of a number is read as its bytes
pub decode_halfword : (text : List ℕ) (n : ℕ) → text ≡ encode_lower (to_be_bytes w16 n)
    → decode_sized text 2 ≡ Ok (to_be_bytes w16 n)
decode_halfword text n is = ap (λ t. decode_sized t 2) is
    ∙ decode_sized-encode_lower (to_be_bytes w16 n) 2 refl (high_first_bytes 2 n)

pub decode_doubleword : (text : List ℕ) (n : ℕ) → text ≡ encode_lower (to_be_bytes w64 n)
    → decode_sized text 8 ≡ Ok (to_be_bytes w64 n)
decode_doubleword text n is = ap (λ t. decode_sized t 8) is
    ∙ decode_sized-encode_lower (to_be_bytes w64 n) 8 refl (high_first_bytes 8 n)

pub halfword_again : (bytes : List ℕ) (n : ℕ) → n < 2 ^ 16 → bytes ≡ to_be_bytes w16 n
    → from_be_bytes w16 bytes ≡ n
halfword_again bytes n few is = ap (from_be_bytes w16) is ∙ from_be_bytes-to_be_bytes_2 n few

pub doubleword_again : (bytes : List ℕ) (n : ℕ) → n < 2 ^ 64 → bytes ≡ to_be_bytes w64 n
    → from_be_bytes w64 bytes ≡ n
doubleword_again bytes n few is = ap (from_be_bytes w64) is ∙ from_be_bytes-to_be_bytes_8 n few

same_ok : (a b : List ℕ) → ◌≡◌ {A = Result (List ℕ) FromHexError} (Ok a) (Ok b) → a ≡ b
same_ok a b is = cc

-- no two numbers have one text
pub halfword_injective : (text : List ℕ) (m n : ℕ) → m < 2 ^ 16 → n < 2 ^ 16
    → text ≡ encode_lower (to_be_bytes w16 m) → text ≡ encode_lower (to_be_bytes w16 n) → m ≡ n
halfword_injective text m n m_in n_in is also =
    let bytes : to_be_bytes w16 m ≡ to_be_bytes w16 n =
    same_ok (to_be_bytes w16 m) (to_be_bytes w16 n) (sym (decode_halfword text m is)
    ∙ decode_halfword text n also) in
    sym (halfword_again (to_be_bytes w16 m) m m_in refl) ∙ halfword_again (to_be_bytes w16 m) n n_in bytes

pub doubleword_injective : (text : List ℕ) (m n : ℕ) → m < 2 ^ 64 → n < 2 ^ 64
    → text ≡ encode_lower (to_be_bytes w64 m) → text ≡ encode_lower (to_be_bytes w64 n) → m ≡ n
doubleword_injective text m n m_in n_in is also =
    let bytes : to_be_bytes w64 m ≡ to_be_bytes w64 n =
    same_ok (to_be_bytes w64 m) (to_be_bytes w64 n) (sym (decode_doubleword text m is)
    ∙ decode_doubleword text n also) in
    sym (doubleword_again (to_be_bytes w64 m) m m_in refl) ∙ doubleword_again (to_be_bytes w64 m) n n_in bytes
