-- The tables of what a text defines grow item by item.
use Rattle.std.proofs.Common.{◌≡◌, ℕ, suc, List, [], ◌∷◌, ◌++◌, map, cond, Some, option_map, position, bytes_eq, refl, sym, ap, subst, ◌∙◌}
use Rattle.std.specs.Borrow.{Bor}
use Rattle.std.proofs.lemmas.List.{append-nil, map-append}
use Rattle.c_tree.specs.declared.raw.program.RawMember.{RawMember}
use Rattle.c_tree.specs.declared.raw.program.RawHead.{RawHead}
use Rattle.c_tree.specs.declared.raw.statement.RawStatement.{RawStatement}
use Rattle.c_language.specs.Words.{Bytes}
use Rattle.c_types_base.specs.declared.definitions.Definitions.{Definitions}
use Rattle.c_tree.specs.declared.raw.program.RawItem.{RawItem}
use Rattle.c_tree.specs.declared.raw.program.RawItem.TheVariants.{Include, Tag, Struct, Global, Prototype, Define}
use Rattle.c_language.specs.DeclaredTypes.{StructText, struct_texts, function_texts}
use Rattle.c_language.proofs.Lists.{position-cons}
use Rattle.c_types_base.specs.declared.numbering.Numbering.{Numbering}
use Rattle.c_types_base.specs.Numbering.{Numbers}
use Rattle.c_types_base.specs.Definitions.{names_of_members, tags_of, names_of_functions, NumberMembers, Defines}

pub structs-append : (xs ys : List RawItem) → struct_texts (xs ++ ys) ≡ struct_texts xs ++ struct_texts ys
structs-append [] ys = refl
structs-append (Include s ∷ xs) ys = structs-append xs ys
structs-append (Tag l t ∷ xs) ys = structs-append xs ys
structs-append (Struct l t ms ∷ xs) ys = ap (λ r. record { tag = t; members = ms } ∷ r) (structs-append xs ys)
structs-append (Global l v i s ∷ xs) ys = structs-append xs ys
structs-append (Prototype l h ∷ xs) ys = structs-append xs ys
structs-append (Define l h b ∷ xs) ys = structs-append xs ys

pub functions-append : (xs ys : List RawItem) → function_texts (xs ++ ys) ≡ function_texts xs ++ function_texts ys
functions-append [] ys = refl
functions-append (Include s ∷ xs) ys = functions-append xs ys
functions-append (Tag l t ∷ xs) ys = functions-append xs ys
functions-append (Struct l t ms ∷ xs) ys = functions-append xs ys
functions-append (Global l v i s ∷ xs) ys = functions-append xs ys
functions-append (Prototype l h ∷ xs) ys = functions-append xs ys
functions-append (Define l h b ∷ xs) ys = ap (λ r. h ∷ r) (functions-append xs ys)

pub members-push : (ss : List StructText) (s : StructText) (ns : List Numbering) (n : Numbering)
    → NumberMembers ss ns → Numbers (names_of_members s.members) n → NumberMembers (ss ++ s ∷ []) (ns ++ n ∷ [])
members-push [] s [] n h is = (is, tt)
members-push [] s (m ∷ ns) n h is = absurd h
members-push (t ∷ ss) s [] n h is = absurd h
members-push (t ∷ ss) s (m ∷ ns) n (first, rest) is = (first, members-push ss s ns n rest is)

-- the place of a name among those of some things
pub position-map : {A : Type 0} (name : A → List ℕ) (q : List ℕ) (xs : List A) → position (λ (x : A). bytes_eq (name x) q) xs ≡ position (λ (y : List ℕ). bytes_eq y q) (map name xs)
position-map name q [] = refl
position-map name q (x ∷ xs) =
    position-cons (λ y. bytes_eq (name y) q) x xs ∙ ap (λ o. cond (bytes_eq (name x) q) (Some 0) (option_map suc o)) (position-map name q xs)
    ∙ sym (position-cons (λ y. bytes_eq y q) (name x) (map name xs))

-- a table once a thing with the name is added
names-push : {A : Type 0} (name : A → List ℕ) (xs ys : List A) (x : A) (n : Numbering) → ys ≡ xs ++ x ∷ [] → Numbers (map name xs ++ name x ∷ []) n → Numbers (map name ys) n
names-push name xs ys x n e is = subst (λ zs. Numbers zs n) (sym (ap (map name) e ∙ map-append name xs (x ∷ []))) is

module _ (items : List RawItem) (line : ℕ) (old new : Definitions) (is : Defines items old) where
  -- a struct type is added
  pub struct_added : (tag : Bytes) (members : List RawMember) (places : Numbering) → Numbers (names_of_members members) places
      → ((names : List Bytes) → Numbers names old.tags → Numbers (names ++ tag ∷ []) new.tags) → new.members ≡ old.members ++ places ∷ []
      → new.functions ≡ old.functions → new.heads.items ≡ old.heads.items → Defines (items ++ Struct line tag members ∷ []) new
  struct_added tag members places placed tagged pushed functions heads = record {
    tags = names-push (λ (s : StructText). s.tag) (struct_texts items) (struct_texts (items ++ Struct line tag members ∷ [])) (record { tag = tag; members = members }) new.tags (structs-append items (Struct line tag members ∷ [])) (tagged _ is.tags);
    members = subst (λ ns. NumberMembers (struct_texts (items ++ Struct line tag members ∷ [])) ns) (sym pushed)
        (subst (λ ss. NumberMembers ss (old.members ++ places ∷ [])) (sym (structs-append items (Struct line tag members ∷ []))) (members-push (struct_texts items) (record { tag = tag; members = members }) old.members places is.members placed));
    functions = subst (λ n. Numbers (names_of_functions (function_texts (items ++ Struct line tag members ∷ []))) n) (sym functions)
        (subst (λ fs. Numbers (names_of_functions fs) old.functions) (sym (functions-append items (Struct line tag members ∷ []) ∙ append-nil (function_texts items))) is.functions);
    heads = ap (map (λ (h : Bor RawHead). h.now)) heads ∙ is.heads ∙ sym (functions-append items (Struct line tag members ∷ []) ∙ append-nil (function_texts items));
  }

  -- a function is added
  pub function_added : (head : Bor RawHead) (body : List RawStatement)
      → ((names : List Bytes) → Numbers names old.functions → Numbers (names ++ head.now.name ∷ []) new.functions) → new.heads.items ≡ old.heads.items ++ head ∷ []
      → new.tags ≡ old.tags → new.members ≡ old.members → Defines (items ++ Define line head.now body ∷ []) new
  function_added head body named pushed tags members = record {
    tags = subst (λ n. Numbers (tags_of (struct_texts (items ++ Define line head.now body ∷ []))) n) (sym tags)
        (subst (λ ss. Numbers (tags_of ss) old.tags) (sym (structs-append items (Define line head.now body ∷ []) ∙ append-nil (struct_texts items))) is.tags);
    members = subst (λ ns. NumberMembers (struct_texts (items ++ Define line head.now body ∷ [])) ns) (sym members)
        (subst (λ ss. NumberMembers ss old.members) (sym (structs-append items (Define line head.now body ∷ []) ∙ append-nil (struct_texts items))) is.members);
    functions = names-push (λ (f : RawHead). f.name) (function_texts items) (function_texts (items ++ Define line head.now body ∷ [])) head.now new.functions (functions-append items (Define line head.now body ∷ [])) (named _ is.functions);
    heads = ap (map (λ (h : Bor RawHead). h.now)) pushed ∙ map-append (λ (h : Bor RawHead). h.now) old.heads.items (head ∷ []) ∙ ap (λ fs. fs ++ head.now ∷ []) is.heads
        ∙ sym (functions-append items (Define line head.now body ∷ []));
  }

-- an item that defines nothing is added
pub nothing_added : (items : List RawItem) (x : RawItem) (d : Definitions) → struct_texts (x ∷ []) ≡ [] → function_texts (x ∷ []) ≡ [] → Defines items d → Defines (items ++ x ∷ []) d
nothing_added items x d structs functions is =
    let same : struct_texts (items ++ x ∷ []) ≡ struct_texts items = structs-append items (x ∷ []) ∙ ap (λ r. struct_texts items ++ r) structs ∙ append-nil (struct_texts items) in
    let also : function_texts (items ++ x ∷ []) ≡ function_texts items = functions-append items (x ∷ []) ∙ ap (λ r. function_texts items ++ r) functions ∙ append-nil (function_texts items) in
    record {
      tags = subst (λ ss. Numbers (tags_of ss) d.tags) (sym same) is.tags;
      members = subst (λ ss. NumberMembers ss d.members) (sym same) is.members;
      functions = subst (λ fs. Numbers (names_of_functions fs) d.functions) (sym also) is.functions;
      heads = is.heads ∙ sym also;
    }
