-- One file under a name.
use Rattle.std.proofs.Common.{◌≡◌, ℕ, ◌≤◌, List, [], ◌∷◌, Option, Some, None, length, option_map, refl, sym, subst, ap, ◌∙◌}
use Rattle.std.specs.Prelude.{cond}
use Rattle.std.specs.List.{find}
use Rattle.std.specs.Str.{bytes_eq}
use Rattle.std.proofs.lemmas.Slice.Eq.{bytes_eq-Decides}
use Rattle.edge_io.specs.Contents.{Told}
use Rattle.slicer_top.specs.Files.{HoldsGiven, HoldsText}

abbrev Bytes : Type 0
Bytes = List ℕ

-- of the one file that a list has, the text stands under its name
pub under_name : (files : List (Bytes × Bytes)) (name text wanted : Bytes) → files ≡ (name, text) ∷ [] → name ≡ wanted → option_map (λ (f : Bytes × Bytes). f.1) (find (λ (f : Bytes × Bytes). bytes_eq f.0 wanted) files) ≡ Some text
under_name files name text wanted are same =
    ap (λ fs. option_map (λ (f : Bytes × Bytes). f.1) (find (λ (f : Bytes × Bytes). bytes_eq f.0 wanted) fs)) are ∙ ap (λ b. option_map (λ (f : Bytes × Bytes). f.1) (cond b (Some (name, text)) None)) ((bytes_eq-Decides name wanted).1 same)

-- what stands under the name that is asked for
pub named_text : (told : Told) (made : Bytes) (asked : Option Bytes) (name text : Bytes) → asked ≡ Some name → HoldsText told name text → length text ≤ 1048576 → HoldsGiven told made asked text
named_text told made asked name text is holds short = subst (λ o. HoldsGiven told made o text) (sym is) (holds, short)

-- where no input is asked for, it has no bytes
pub no_input : (told : Told) (name : Option Bytes) → name ≡ None → HoldsGiven told [] name []
no_input told None is = refl
no_input told (Some name) is = absurd (let e : ◌≡◌ {A = Option Bytes} (Some name) None = is in cc)
