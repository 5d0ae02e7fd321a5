-- The numbers of the listing: decimal digits, or hex digits in quotes behind an X, below 2 ^ 64.
use Rattle.std.specs.Prelude.{ℕ, ◌-◌, ◌^◌, ◌&&◌, List, length, take, drop, Option, Some, None, nat_lt, nat_le}
use Rattle.std.specs.Prelude.{◌==◌, if◌then◌else◌, slice_index}
use Rattle.std.specs.List.{list_all}
use Rattle.std.specs.Char.{is_digit}
use Rattle.std.specs.Str.Parse.{digits_value_after}
use Rattle.z_text.specs.declared.token.TokenKind.{TokenKind}
use Rattle.z_text.specs.declared.token.TokenKind.TheVariants.{Number, Hex}

-- the number that digits write behind those of n, where they are digits and it fits 64 bits
unfoldable pub number_behind : ℕ → ℕ → List ℕ → Option ℕ
number_behind base n bs =
    if list_all (λ b. is_digit b base) bs && nat_lt (digits_value_after base n bs) (2 ^ 64)
    then Some (digits_value_after base n bs) else None

abbrev pub number_in : ℕ → List ℕ → Option ℕ
number_in base bs = number_behind base 0 bs

-- X, a quote, 1 to 16 digits and a quote
unfoldable pub quoted_hex : List ℕ → Option ℕ
quoted_hex bs =
    if nat_le 4 (length bs) && (nat_le (length bs) 19 && (slice_index bs (length bs - 1) == 39))
    then number_in 16 (take (length bs - 3) (drop 2 bs)) else None

-- the number that a token of this kind is, if it is one
unfoldable pub number_of : TokenKind → List ℕ → Option ℕ
number_of Number bs = number_in 10 bs
number_of Hex bs = quoted_hex bs
number_of _ bs = None
