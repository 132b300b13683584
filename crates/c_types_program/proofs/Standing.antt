-- Tables that stand at a place of a text, and what is told of the place.
use Rattle.std.proofs.Common.{◌≡◌, refl, sym, ap, subst, ◌∙◌}
use Rattle.c_tree.specs.declared.raw.program.RawProgram.{RawProgram}
use Rattle.c_language.specs.Scopes.{Scope}
use Rattle.c_types_base.specs.declared.tables.Tables.{Tables}
use Rattle.c_types_base.specs.Tables.{scope_of, AreRight, IsAt}

pub record Stands (raw : RawProgram) (scope : Scope) (t : Tables) : Type 0 where
  pub text : t.raw.now ≡ raw
  pub place : scope_of t ≡ scope
  pub right : AreRight t

pub here : (t : Tables) → AreRight t → Stands t.raw.now (scope_of t) t
here t right = record { text = refl; place = refl; right = right }

-- what holds at the tables holds at the place
pub told : {raw : RawProgram} {scope : Scope} {t : Tables} (P : RawProgram → Scope → Type 0) → Stands raw scope t → P t.raw.now (scope_of t) → P raw scope
told {raw} {scope} {t} P stands h = subst (P raw) stands.place (subst (λ r. P r (scope_of t)) stands.text h)

-- and the other way
pub given : {raw : RawProgram} {scope : Scope} {t : Tables} (P : RawProgram → Scope → Type 0) → Stands raw scope t → P raw scope → P t.raw.now (scope_of t)
given {raw} {scope} {t} P stands h = subst (λ r. P r (scope_of t)) (sym stands.text) (subst (P raw) (sym stands.place) h)

-- the tables go on to another place
pub goes : {raw : RawProgram} {scope : Scope} {t u : Tables} (f : RawProgram → Scope → Scope) → Stands raw scope t → IsAt t u (f t.raw.now (scope_of t)) → Stands raw (f raw scope) u
goes {raw} {scope} {t} {u} f stands h = record {
  text = h.text ∙ stands.text;
  place = h.scope_is ∙ (ap (λ r. f r (scope_of t)) stands.text ∙ ap (f raw) stands.place);
  right = h.right stands.right;
}

-- tables that came from others to a place
pub came : {t u : Tables} {scope after : Scope} → Stands t.raw.now after u → after ≡ scope → IsAt t u scope
came stands is = record { scope_is = stands.place ∙ is; text = stands.text; right = λ h. stands.right }
