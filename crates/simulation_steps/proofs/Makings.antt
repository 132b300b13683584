-- What acts make of alike values: what is shown, stored, begun and freed.
use Rattle.std.proofs.Common.{◌≡◌, ℕ, zero, suc, ℤ, List, [], ◌∷◌, length, map, Option, Some, None, Bool, true, false, refl, ap, ap₂, subst}
use Rattle.std.specs.Prelude.{pos, option_and_then, if◌then◌else◌}
use Rattle.c_language.specs.declared.expr_type.ExprType.{ExprType}
use Rattle.c_language.specs.ExprTypes.{is_integer, target_of}
use Rattle.c_language.specs.Words.{Bytes}
use Rattle.c_meaning.specs.declared.value.Hop.TheVariants as hop
use Rattle.c_meaning.specs.declared.value.Place.{Place}
use Rattle.c_meaning.specs.declared.value.Value.{Value}
use Rattle.c_meaning.specs.declared.value.Value.TheVariants.{Number, Null}
use Rattle.c_meaning.specs.Values.{tested, as_type, number_in}
use Rattle.c_meaning.specs.Acts.{Store, Request, Made, shows, storing, assigned, list_stores, all_as, taking, put_out, printed, printed_all, granted, beginning, begun_for, allocated_by, returning}
use Rattle.c_meaning.specs.Formats.{pieces_of, converted, written}
use Rattle.simulation.specs.Renaming.{World, Stands, AlikeValue, number, null, empty, held}
use Rattle.simulation_steps.proofs.Outcomes.{ComesToo, undefined, comes, AlikeList, nil, cons, AlikePlace, AlikeStore, no_block, one_block, AlikeMade}
use Rattle.simulation_steps.proofs.StandingObjects.{then_too, map_too, beside_too, inside_too}
use Rattle.simulation_steps.proofs.Operators.{tested_too, number_too, converted_too}

-- ---- equal parts

pub same_too : {A : Type 0} (o p : Option A) → o ≡ p → ComesToo (λ (a b : A). a ≡ b) o p
same_too None p e = undefined
same_too (Some x) p e = subst (λ q. ComesToo (λ a b. a ≡ b) (Some x) q) e (comes refl)

pub same_length : {A B : Type 0} (R : A → B → Type 0) (as_ : List A) (bs : List B) → AlikeList R as_ bs → length as_ ≡ length bs
same_length R as_ bs nil = refl
same_length R as_ bs (cons {as_ = xs} {bs = ys} r h) = ap suc (same_length R xs ys h)

module _ (w : World) where
  pub tested_list : (vs us : List Value) → AlikeList (AlikeValue w) vs us → map tested vs ≡ map tested us
  tested_list vs us nil = refl
  tested_list vs us (cons {a = v} {b = u} {as_ = xs} {bs = ys} e h) = ap₂ (λ x y. x ∷ y) (tested_too w v u e) (tested_list xs ys h)

  pub numbers_in_too : (o p : Option Value) → ComesToo (AlikeValue w) o p → ComesToo (λ (x y : ℤ). x ≡ y) (option_and_then number_in o) (option_and_then number_in p)
  numbers_in_too o p undefined = undefined
  numbers_in_too o p (comes {a = u} {b = v} e) = same_too (number_in u) (number_in v) (number_too w u v e)

  -- ---- acts that begin no block

  pub record IsLike (x y : Made) : Type 0 where
    pub none : x.begun ≡ None
    pub alike : AlikeMade w x y

  shown_made : (vs us : List Value) (out : Bytes) → AlikeList (AlikeValue w) vs us → AlikeMade w (shows vs out) (shows us out)
  shown_made vs us out h = record {
    values = h;
    stores = nil;
    output = refl;
    taken = refl;
    begun = refl;
    freed = no_block;
    returned = empty;
  }

  pub shown_like : (vs us : List Value) (out : Bytes) → AlikeList (AlikeValue w) vs us → IsLike (shows vs out) (shows us out)
  shown_like vs us out h = record { none = refl; alike = shown_made vs us out h }

  -- a value that is shown alone
  pub value_shown : (v u : Value) (out : Bytes) → AlikeValue w v u → IsLike (shows (v ∷ []) out) (shows (u ∷ []) out)
  value_shown v u out e = shown_like (v ∷ []) (u ∷ []) out (cons e nil)

  pub numbers_list : (zs : List ℤ) → AlikeList (AlikeValue w) (map Number zs) (map Number zs)
  numbers_list [] = nil
  numbers_list (z ∷ zs) = cons number (numbers_list zs)

  pub put_like : (z y : ℤ) → z ≡ y → IsLike (put_out z) (put_out y)
  put_like z y e = subst (λ x. IsLike (put_out z) (put_out x)) e (value_shown (Number z) (Number z) _ number)

  pub tested_like : (v u : Value) → AlikeValue w v u → IsLike (shows (Number (tested v) ∷ []) []) (shows (Number (tested u) ∷ []) [])
  tested_like v u e = subst (λ z. IsLike (shows (Number (tested v) ∷ []) []) (shows (Number z ∷ []) [])) (tested_too w v u e) (value_shown _ _ [] number)

  pub printed_like : (format : Bytes) (vs us : List Value) → AlikeList (AlikeValue w) vs us → IsLike (printed_all format vs) (printed_all format us)
  printed_like format vs us h =
      let zs = converted (pieces_of format) (map tested vs) in
      subst (λ xs. IsLike (printed_all format vs) (printed (pieces_of format) (converted (pieces_of format) xs))) (tested_list vs us h) (shown_like (map Number zs) (map Number zs) (written (pieces_of format) zs) (numbers_list zs))

  pub taking_like : (x y : Made) → IsLike x y → IsLike (taking x) (taking y)
  taking_like x y h = record {
    none = h.none;
    alike = record {
      values = h.alike.values;
      stores = h.alike.stores;
      output = h.alike.output;
      taken = refl;
      begun = h.alike.begun;
      freed = h.alike.freed;
      returned = h.alike.returned;
    };
  }

  pub returning_like : (v u : Value) → AlikeValue w v u → IsLike (returning v) (returning u)
  returning_like v u e = record {
    none = refl;
    alike = record { values = cons e nil; stores = nil; output = refl; taken = refl; begun = refl; freed = no_block; returned = held e };
  }

  pub freeing_like : (b c : ℕ) (v u : Value) → Stands w b c → AlikeValue w v u → IsLike (record (shows (v ∷ []) []) { freed = Some b }) (record (shows (u ∷ []) []) { freed = Some c })
  freeing_like b c v u s e = record {
    none = refl;
    alike = record { values = cons e nil; stores = nil; output = refl; taken = refl; begun = refl; freed = one_block s; returned = empty };
  }

  -- ---- stores

  storing_like : (q r : Place) (v u : Value) → AlikePlace w q r → AlikeValue w v u → IsLike (storing q v) (storing r u)
  storing_like q r v u place e = record {
    none = refl;
    alike = record { values = cons e nil; stores = cons (record { place = place; value = e }) nil; output = refl; taken = refl; begun = refl; freed = no_block; returned = empty };
  }

  pub assigned_too : (k : ExprType) (o p : Option Place) (a b : Option Value) → ComesToo (AlikePlace w) o p → ComesToo (AlikeValue w) a b → ComesToo IsLike (assigned k o a) (assigned k p b)
  assigned_too k o p a b h e =
      then_too (AlikePlace w) IsLike _ _ o p h (λ q r place. map_too (AlikeValue w) IsLike (storing q) (storing r) (option_and_then (as_type k) a) (option_and_then (as_type k) b) (then_too (AlikeValue w) (AlikeValue w) (as_type k) (as_type k) a b e (converted_too w k)) (λ v u value. storing_like q r v u place value))

  zero_by : (b : Bool) → AlikeValue w (if b then Number (pos 0) else Null) (if b then Number (pos 0) else Null)
  zero_by true = number
  zero_by false = null

  pub list_alike : (q r : Place) (k : ExprType) (i n : ℕ) (vs us : List Value) → AlikePlace w q r → AlikeList (AlikeValue w) vs us → AlikeList (AlikeStore w) (list_stores q k i n vs) (list_stores r k i n us)
  list_alike q r k i zero vs us place h = nil
  list_alike q r k i (suc n) vs us place nil =
      cons (record { place = inside_too w (hop.Element i) q r place; value = zero_by (is_integer k) }) (list_alike q r k (suc i) n [] [] place nil)
  list_alike q r k i (suc n) vs us place (cons {as_ = xs} {bs = ys} e h) =
      cons (record { place = inside_too w (hop.Element i) q r place; value = e }) (list_alike q r k (suc i) n xs ys place h)

  pub all_as_too : (k : ExprType) (vs us : List Value) → AlikeList (AlikeValue w) vs us → ComesToo (AlikeList (AlikeValue w)) (all_as k vs) (all_as k us)
  all_as_too k vs us nil = comes nil
  all_as_too k vs us (cons {a = v} {b = u} {as_ = xs} {bs = ys} e h) =
      beside_too w (as_type k v) (as_type k u) (all_as k xs) (all_as k ys) (converted_too w k v u e) (all_as_too k xs ys h)

  pub storing_list : (vs us : List Value) (ws xs : List Store) → AlikeList (AlikeValue w) vs us → AlikeList (AlikeStore w) ws xs → IsLike (record (shows vs []) { stores = ws }) (record (shows us []) { stores = xs })
  storing_list vs us ws xs h k = record { none = refl; alike = record { values = h; stores = k; output = refl; taken = refl; begun = refl; freed = no_block; returned = empty } }

  -- ---- blocks that begin

  pub beginning_like : (k : ExprType) (n : ℕ) (x y : Made) → AlikeMade w x y → AlikeMade w (beginning k n x) (beginning k n y)
  beginning_like k n x y h = record {
    values = h.values;
    stores = h.stores;
    output = h.output;
    taken = h.taken;
    begun = refl;
    freed = h.freed;
    returned = h.returned;
  }

  -- a block of some size
  pub record Begins (x y : Made) : Type 0 where
    pub request : Request
    pub begun_is : x.begun ≡ Some request
    pub alike : AlikeMade w x y

  begun_too : (k : ExprType) (n : ℕ) (x y : Option Made) → ComesToo IsLike x y → ComesToo Begins (begun_for x k n) (begun_for y k n)
  begun_too k n x y h =
      map_too IsLike Begins (beginning k n) (beginning k n) x y h (λ a b e. record { request = record { shape = k; count = n }; begun_is = refl; alike = beginning_like k n a b e.alike })

  pub allocated_too : (o : Option ExprType) (c d : Option ℤ) (x y : Option Made) → ComesToo (λ (i j : ℤ). i ≡ j) c d → ComesToo IsLike x y → ComesToo Begins (allocated_by o c x) (allocated_by o d y)
  allocated_too o c d x y h k = by_target (option_and_then target_of o)
    where
      same_count : (a b : Option ℤ) → ComesToo (λ (i j : ℤ). i ≡ j) a b → ComesToo (λ (i j : ℕ). i ≡ j) (option_and_then granted a) (option_and_then granted b)
      same_count a b undefined = undefined
      same_count a b (comes {a = i} {b = j} e) = same_too (granted i) (granted j) (ap granted e)

      by_target : (t : Option ExprType) → ComesToo Begins (option_and_then (λ (u : ExprType). option_and_then (begun_for x u) (option_and_then granted c)) t) (option_and_then (λ (u : ExprType). option_and_then (begun_for y u) (option_and_then granted d)) t)
      by_target None = undefined
      by_target (Some u) =
          then_too (λ (i j : ℕ). i ≡ j) Begins (begun_for x u) (begun_for y u) (option_and_then granted c) (option_and_then granted d) (same_count c d h) (λ i j e. subst (λ n. ComesToo Begins (begun_for x u i) (begun_for y u n)) e (begun_too u i x y k))
