-- `==` of two begins says that they are the same.
use Rattle.std.proofs.Common.{◌≡◌, ℕ, Bool, ◌&&◌, ◌==◌, Option, Some, None, refl, ap, Decides}
use Rattle.std.specs.Option.{option_eq}
use Rattle.std.specs.Bool.{beq}
use Rattle.std.specs.Cmp.{booleans_Decides, unsigned_Decides}
use Rattle.std.proofs.lemmas.Bool.Decides.{Decides-and, Decides-like}
use Rattle.tx_control.specs.declared.begins.Begin.{Begin}

abbrev pub are_equal : Begin → Begin → Bool
are_equal x y =
    (x.mask == y.mask)
    && (beq x.a y.a
    && (beq x.f y.f
    && ((x.pifc == y.pifc)
    && (option_eq (λ (a b : ℕ). a == b) x.block y.block && beq x.constrained y.constrained))))

blocks_Decide : (x y : Option ℕ) → Decides (option_eq (λ (a b : ℕ). a == b) x y) (x ≡ y)
blocks_Decide None None = (λ _. refl, λ _. refl)
blocks_Decide None (Some y) = (λ e. cc, λ e. cc)
blocks_Decide (Some x) None = (λ e. cc, λ e. cc)
blocks_Decide (Some x) (Some y) = Decides-like _ (ap Some) (λ e. cc) (unsigned_Decides x y)

-- the fields are the same, one by one
abbrev SameFields : Begin → Begin → Type 0
SameFields x y =
    (x.mask ≡ y.mask)
    × ((x.a ≡ y.a)
    × ((x.f ≡ y.f) × ((x.pifc ≡ y.pifc) × ((x.block ≡ y.block) × (x.constrained ≡ y.constrained)))))

fields_Decide : (x y : Begin) → Decides (are_equal x y) (SameFields x y)
fields_Decide x y =
    Decides-and _ _ (unsigned_Decides x.mask y.mask)
    (Decides-and _ _ (booleans_Decides x.a y.a)
    (Decides-and _ _ (booleans_Decides x.f y.f)
    (Decides-and _ _ (unsigned_Decides x.pifc y.pifc)
    (Decides-and _ _ (blocks_Decide x.block y.block) (booleans_Decides x.constrained y.constrained)))))

joined : (x y : Begin) → SameFields x y → x ≡ y
joined x y h = λ i. record {
  mask = h.0 i;
  a = h.1.0 i;
  f = h.1.1.0 i;
  pifc = h.1.1.1.0 i;
  block = h.1.1.1.1.0 i;
  constrained = h.1.1.1.1.1 i;
}

split : (x y : Begin) → x ≡ y → SameFields x y
split x y e = (
  ap (λ (b : Begin). b.mask) e,
  (
    ap (λ (b : Begin). b.a) e,
    (
      ap (λ (b : Begin). b.f) e,
      (
        ap (λ (b : Begin). b.pifc) e,
        (ap (λ (b : Begin). b.block) e, ap (λ (b : Begin). b.constrained) e),
      ),
    ),
  ),
)

pub begins_Decide : (x y : Begin) → Decides (are_equal x y) (x ≡ y)
begins_Decide x y = Decides-like _ (joined x y) (split x y) (fields_Decide x y)
