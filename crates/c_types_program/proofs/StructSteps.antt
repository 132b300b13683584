-- Struct types: what is listed of their members, and what is made of them.
use Rattle.std.proofs.Common.{◌≡◌, ℕ, zero, suc, ◌+◌, ◌<◌, ◌≤◌, List, [], ◌∷◌, ◌++◌, length, take, drop, get_or, map, Bool, true, false, Some, None, Result, Ok, Err, bytes_eq, append_assoc, append-nil, arith, refl, sym, ap, subst, ◌∙◌}
use Rattle.std.specs.Prelude.{Contains, IsSome, ◌||◌}
use Rattle.std.specs.List.{list_any}
use Rattle.std.specs.Result.{IsErrAnd}
use Rattle.std.proofs.lemmas.List.{map-append, drop_all}
use Rattle.std.proofs.lemmas.Slice.Eq.{bytes_eq-Decides as bytes_decides}
use Rattle.std.proofs.lemmas.List.Elements.{Contains-append_left, Contains-append_right}
use Rattle.c_tree.specs.declared.program.StructDef.{StructDef}
use Rattle.c_tree.specs.declared.raw.program.RawItem.{RawItem}
use Rattle.c_tree.specs.declared.raw.program.RawItem.TheVariants.{Struct}
use Rattle.c_tree.specs.declared.raw.program.RawMember.{RawMember}
use Rattle.c_tree.specs.declared.raw.program.RawProgram.{RawProgram}
use Rattle.c_language.specs.DeclaredTypes.{StructText, struct_texts, written_type}
use Rattle.c_language.specs.Phrases.{HasMember, member_phrases}
use Rattle.c_language.specs.ProgramOf.{collected, member_tree, struct_tree}
use Rattle.c_language.specs.Rules.{member, BreaksNone}
use Rattle.c_language.specs.Scopes.{Scope}
use Rattle.c_language.specs.StructRules.{MisnamesMember}
use Rattle.c_language.specs.Words.{Bytes}
use Rattle.c_language.proofs.Turns.{drop_turn}
use Rattle.c_language.proofs.Lists.{contains_first, contains_later}
use Rattle.c_types_base.specs.Names.{listed_type}
use Rattle.c_types_base.specs.declared.names.StructMembers.{StructMembers}
use Rattle.c_types_base.proofs.DefinitionLemmas.{structs-append}
use Rattle.c_types_base.specs.Listing.{HasMembers}
use Rattle.c_types_base.proofs.OptionLemmas.{is_there}
use Rattle.c_types_base.proofs.ListingLaws.{named_before, gone}
use Rattle.c_types_trees.specs.declared.make_fault.MakeFault.{MakeFault}
use Rattle.c_types_trees.specs.declared.make_fault.MakeFault.TheVariants.{Length, NoMemory}
use Rattle.c_types_trees.specs.FitPhrases.{AreFit}
use Rattle.c_types_trees.specs.KeptPhrases.{IsKeptMember}
use Rattle.c_types_trees.specs.Shapes.{MakesMember}
use Rattle.c_types_program.specs.Items.{AreFitMembers, AreFitStructs, HasLongStruct, MakesMembers, MakesStruct, AddsStruct, MakesStructs}
use Rattle.c_types_trees.proofs.Collected.{contains_turn}
use Rattle.c_types_trees.proofs.PhraseTrees.{member_made}
use Rattle.c_types_program.proofs.Turns.{collected_made}

-- what holds of a fault holds of any answer that passes it on
pub passes_stop : {A : Type 0} (P : Result A MakeFault → Type 0) (e : MakeFault) (r : Result A MakeFault) → IsErrAnd r (λ y. y ≡ e) → P (Err e) → P r
passes_stop P e (Ok x) h k = absurd h
passes_stop P e (Err y) h k = subst (λ (f : MakeFault). P (Err f)) (sym h) k

-- ---- the members of a struct type that keep the rules

member_at : (raw : RawProgram) (scope : Scope) (before ms : List RawMember) (i : ℕ) (m : RawMember) → i < length ms → m ≡ get_or ms i m
    → AreFit raw (member_phrases scope before ms) → BreaksNone raw scope (HasMember (before ++ take i ms) m)
member_at raw scope before [] i m within is h = absurd (omega (arith, within))
member_at raw scope before (x ∷ ms) zero m within is h =
    subst (λ (y : RawMember). BreaksNone raw scope (HasMember (before ++ []) y)) (sym is)
    (subst (λ (ys : List RawMember). BreaksNone raw scope (HasMember ys x)) (sym (append-nil before)) h.0.kept)
member_at raw scope before (x ∷ ms) (suc i) m within is h =
    subst (λ (ys : List RawMember). BreaksNone raw scope (HasMember ys m)) (append_assoc before (x ∷ []) (take i ms))
    (member_at raw scope (before ++ x ∷ []) ms i m (omega (arith, within)) is h.1)

or_false : (a b : Bool) → (a ≡ true → ⊥) → b ≡ false → (a || b) ≡ false
or_false true b h k = absurd (h refl)
or_false false b h k = k

none_any : {A : Type 0} (p : A → Bool) (xs : List A) → ((x : A) → Contains xs x → p x ≡ true → ⊥) → list_any p xs ≡ false
none_any p [] h = refl
none_any p (x ∷ xs) h = or_false (p x) (list_any p xs) (h x (contains_first x xs)) (none_any p xs (λ y c. h y (contains_later x y xs c)))

module _ (raw : RawProgram) (ms : List RawMember) (h : AreFitMembers raw ms) (i : ℕ) (m : RawMember) (within : i < length ms) (is : m ≡ get_or ms i m) where
  kept_here : BreaksNone raw h.scope (HasMember (take i ms) m)
  kept_here = member_at raw h.scope [] ms i m within is h.fit

  pub member_kept : IsKeptMember raw m
  member_kept = record { scope = h.scope; before = take i ms; kept = kept_here }

  pub member_typed : IsSome (written_type raw m.shape)
  member_typed = is_there (written_type raw m.shape) (member_made raw h.scope (take i ms) m kept_here).typed

  -- its name is none of those before
  pub member_new : (listed : StructMembers) → HasMembers raw (take i ms) listed → listed_type m.name listed ≡ None
  member_new listed has =
      gone (listed_type m.name listed)
      (named_before raw h.scope (take i ms) m listed has
      ∙ none_any (λ (other : RawMember). bytes_eq other.name m.name) (take i ms)
      (λ other c e. kept_here 8 (member (MisnamesMember.again c ((bytes_decides other.name m.name).0 e)))))

  -- a member that is too long
  pub members_stop : (e : MakeFault) → MakesMember (member_tree raw m) (Err e) → MakesMembers raw ms (Err e)
  members_stop Length long = (m, contains_turn ms i m within is, long)
  members_stop NoMemory long = tt

-- ---- an item

module _ (raw : RawProgram) (one : RawItem) (line : ℕ) (tag : Bytes) (ms : List RawMember) (is : one ≡ Struct line tag ms) where
  pub own_members : AreFitStructs raw (one ∷ []) → AreFitMembers raw ms
  own_members h = subst (λ (x : RawItem). AreFitStructs raw (x ∷ [])) is h (record { tag = tag; members = ms }) (contains_first (record { tag = tag; members = ms }) [])

  pub adds_struct : (old new : List StructDef) (x : StructDef) → struct_tree raw (record { tag = tag; members = ms }) ≡ Some x → new ≡ old ++ x ∷ []
      → AddsStruct raw one old new (Ok tt)
  adds_struct old new x tree pushed =
      subst (λ (y : RawItem). map Some new ≡ map Some old ++ map (struct_tree raw) (struct_texts (y ∷ []))) (sym is)
      (ap (map Some) pushed ∙ map-append Some old (x ∷ []) ∙ ap (λ o. map Some old ++ o ∷ []) (sym tree))

  pub stops_struct : (old new : List StructDef) (e : MakeFault) → MakesStruct raw (record { tag = tag; members = ms }) (Err e) → AddsStruct raw one old new (Err e)
  stops_struct old new Length h =
      subst (λ (y : RawItem). HasLongStruct raw (y ∷ [])) (sym is) (record { tag = tag; members = ms }, contains_first (record { tag = tag; members = ms }) [], h)
  stops_struct old new NoMemory h = tt

-- ---- all items

module _ (raw : RawProgram) (items : List RawItem) (i : ℕ) (one : RawItem) (within : i < length items) (is : one ≡ get_or items i one) where
  structs_here : struct_texts (drop i items) ≡ struct_texts (one ∷ []) ++ struct_texts (drop (i + 1) items)
  structs_here = ap struct_texts (drop_turn items i one within is) ∙ structs-append (one ∷ []) (drop (i + 1) items)

  structs_among : (d : StructText) → Contains (struct_texts (one ∷ [])) d → Contains (struct_texts items) d
  structs_among d c =
      among items i within is d c
    where
      among : (xs : List RawItem) (k : ℕ) → k < length xs → one ≡ get_or xs k one → (d : StructText) → Contains (struct_texts (one ∷ [])) d → Contains (struct_texts xs) d
      among [] k low same d c = absurd (omega (arith, low))
      among (x ∷ xs) zero low same d c =
          subst (λ ds. Contains ds d) (sym (structs-append (x ∷ []) xs))
          (Contains-append_left (struct_texts (x ∷ [])) (struct_texts xs) d (subst (λ (y : RawItem). Contains (struct_texts (y ∷ [])) d) same c))
      among (x ∷ xs) (suc k) low same d c =
          subst (λ ds. Contains ds d) (sym (structs-append (x ∷ []) xs)) (Contains-append_right (struct_texts (x ∷ [])) (struct_texts xs) d (among xs k (omega (arith, low)) same d c))

  pub struct_kept : AreFitStructs raw items → AreFitStructs raw (one ∷ [])
  struct_kept h = λ d c. h d (structs_among d c)

  pub structs_stop : (old new : List StructDef) (e : MakeFault) → AddsStruct raw one old new (Err e) → MakesStructs raw items (Err e)
  structs_stop old new Length h = (h.0, structs_among h.0 h.1, h.2)
  structs_stop old new NoMemory h = tt

  pub structs_turn : (old new : List StructDef) → AddsStruct raw one old new (Ok tt)
      → map Some old ++ map (struct_tree raw) (struct_texts (drop i items)) ≡ map (struct_tree raw) (struct_texts items)
      → map Some new ++ map (struct_tree raw) (struct_texts (drop (i + 1) items)) ≡ map (struct_tree raw) (struct_texts items)
  structs_turn old new adds so_far =
      let f = struct_tree raw in
      let rest = struct_texts (drop (i + 1) items) in
      let own = struct_texts (one ∷ []) in
      ap (λ os. os ++ map f rest) adds
      ∙ append_assoc (map Some old) (map f own) (map f rest)
      ∙ ap (λ os. map Some old ++ os) (sym (map-append f own rest))
      ∙ ap (λ ds. map Some old ++ map f ds) (sym structs_here)
      ∙ so_far

pub structs_end : (raw : RawProgram) (items : List RawItem) (i : ℕ) (out : List StructDef) → length items ≤ i
    → map Some out ++ map (struct_tree raw) (struct_texts (drop i items)) ≡ map (struct_tree raw) (struct_texts items) → MakesStructs raw items (Ok out)
structs_end raw items i out low h =
    ap collected (sym h ∙ ap (λ xs. map Some out ++ map (struct_tree raw) (struct_texts xs)) (drop_all i items low) ∙ append-nil (map Some out)) ∙ collected_made out
