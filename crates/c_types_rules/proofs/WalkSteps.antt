-- The walk along stretches, one after another.
use Rattle.std.proofs.Common.{◌≡◌, ℕ, [], ◌∷◌, ◌++◌, length, take, Option, Result, Ok, Err, refl, sym, ap, subst, ◌∙◌, inl, inr}
use Rattle.std.specs.Result.{IsErrAnd}
use Rattle.c_tree.specs.declared.raw.program.RawProgram.{RawProgram}
use Rattle.c_language.specs.Scopes.{Scope, Scoped, opened, closed}
use Rattle.c_language.specs.Phrases.{Phrases}
use Rattle.c_types_base.specs.Tables.{scope_of, AreRight, IsAt}
use Rattle.c_types_base.specs.declared.tables.Tables.{Tables}
use Rattle.c_types_base.specs.declared.tables.Before.{Before}
use Rattle.c_types_base.proofs.ScopeLaws.{Extends, front}
use Rattle.c_types_base.specs.Stretches.{Stretch, then_comes, enclosed}
use Rattle.c_types_rules.specs.Walks.{BreaksFirst, Tells, Walks}
use Rattle.c_types_rules.specs.declared.walk_fault.WalkFault.{WalkFault}
use Rattle.c_types_rules.specs.declared.walk_fault.WalkFault.TheVariants.{Rule, NoMemory}
use Rattle.c_language.specs.Rules.{AreKept}
use Rattle.c_language.proofs.PhraseLists.{kept_joined}

abbrev pub Outcome : Type 0
Outcome = Result (Unit {0}) WalkFault

-- what holds of a fault holds of the answer that passes it on
pub passes_on : (P : Outcome → Type 0) (e : WalkFault) (r : Outcome) → IsErrAnd r (λ y. y ≡ e) → P (Err e) → P r
passes_on P e (Ok x) h k = absurd h
passes_on P e (Err y) h k = subst (λ (f : WalkFault). P (Err f)) (sym h) k

module _ (raw : RawProgram) where
  pub broken_before : (n line : ℕ) (ps qs : Phrases) → BreaksFirst raw n line ps → BreaksFirst raw n line (ps ++ qs)
  broken_before n line [] qs h = absurd h
  broken_before n line (p ∷ ps) qs (inl h) = inl h
  broken_before n line (p ∷ ps) qs (inr h) = inr (h.0, broken_before n line ps qs h.1)

  pub broken_behind : (n line : ℕ) (ps qs : Phrases) → AreKept raw ps → BreaksFirst raw n line qs → BreaksFirst raw n line (ps ++ qs)
  broken_behind n line [] qs kept h = h
  broken_behind n line (p ∷ ps) qs (here, kept) h = inr (here, broken_behind n line ps qs kept h)

  pub told_before : (e : WalkFault) (ps qs : Phrases) → Tells raw ps e → Tells raw (ps ++ qs) e
  told_before (Rule n line) ps qs h = broken_before n line ps qs h
  told_before NoMemory ps qs h = tt

  pub told_behind : (e : WalkFault) (ps qs : Phrases) → AreKept raw ps → Tells raw qs e → Tells raw (ps ++ qs) e
  told_behind (Rule n line) ps qs kept h = broken_behind n line ps qs kept h
  told_behind NoMemory ps qs kept h = tt

-- the tables at another scope of the same text
pub stays_at : (t : Tables) → IsAt t t (scope_of t)
stays_at t = record { scope_is = refl; text = refl; right = λ r. r }

pub at_scope : (a b : Tables) (s t : Scope) → s ≡ t → IsAt a b s → IsAt a b t
at_scope a b s t e h = subst (IsAt a b) e h

-- how far the walk along a stretch has come: what is left of it answers for the whole
pub record Passed (whole left : Stretch) (old now : Tables) : Type 0 where
  pub kept : AreKept old.raw.now ((left old.raw.now).gives (scope_of now)) → AreKept old.raw.now ((whole old.raw.now).gives (scope_of old))
  pub told : (e : WalkFault) → Tells old.raw.now ((left old.raw.now).gives (scope_of now)) e → Tells old.raw.now ((whole old.raw.now).gives (scope_of old)) e
  pub after : (whole old.raw.now).after (scope_of old) ≡ (left old.raw.now).after (scope_of now)
  pub text : now.raw.now ≡ old.raw.now
  pub right : AreRight old → AreRight now

pub begins : (w : Stretch) (old : Tables) → Passed w w old old
begins w old = record { kept = λ h. h; told = λ e h. h; after = refl; text = refl; right = λ r. r }

module _ (whole : Stretch) (old now : Tables) where
  -- what is left is the same
  pub left_same : (w v : Stretch) → w old.raw.now ≡ v old.raw.now → Passed whole w old now → Passed whole v old now
  left_same w v e p = record {
    kept = λ h. p.kept (subst (λ (x : Scoped Phrases). AreKept old.raw.now (x.gives (scope_of now))) (sym e) h);
    told = λ f h. p.told f (subst (λ (x : Scoped Phrases). Tells old.raw.now (x.gives (scope_of now)) f) (sym e) h);
    after = p.after ∙ ap (λ (x : Scoped Phrases). x.after (scope_of now)) e;
    text = p.text;
    right = p.right;
  }

  -- a stretch at the front of what is left is walked
  module _ (w rest : Stretch) (p : Passed whole (then_comes w rest) old now) (next : Tables) where
    of_text : (P : RawProgram → Type 0) → P now.raw.now → P old.raw.now
    of_text P h = subst P p.text h

    turn_with : AreKept old.raw.now ((w old.raw.now).gives (scope_of now)) → scope_of next ≡ (w old.raw.now).after (scope_of now)
        → next.raw.now ≡ now.raw.now → (AreRight now → AreRight next) → Passed whole rest old next
    turn_with kept at text right = record {
      kept = λ h. p.kept (kept_joined old.raw.now _ _ kept (subst (λ (s : Scope). AreKept old.raw.now ((rest old.raw.now).gives s)) at h));
      told = λ e h. p.told e (told_behind old.raw.now e ((w old.raw.now).gives (scope_of now)) _ kept (subst (λ (s : Scope). Tells old.raw.now ((rest old.raw.now).gives s) e) at h));
      after = p.after ∙ ap (rest old.raw.now).after (sym at);
      text = text ∙ p.text;
      right = λ r. right (p.right r);
    }

    pub turn : Walks w now next (Ok tt) → Passed whole rest old next
    turn (kept, is) =
        turn_with (of_text (λ raw. AreKept raw ((w raw).gives (scope_of now))) kept) (is.scope_is ∙ ap (λ (raw : RawProgram). (w raw).after (scope_of now)) p.text) is.text is.right

    pub stops : (e : WalkFault) → Walks w now next (Err e) → Walks whole old next (Err e)
    stops e h =
        p.told e (told_before old.raw.now e ((w old.raw.now).gives (scope_of now)) ((rest old.raw.now).gives ((w old.raw.now).after (scope_of now)))
        (of_text (λ raw. Tells raw ((w raw).gives (scope_of now)) e) h))

  -- the last stretch is walked
  pub ends : (w : Stretch) → Passed whole w old now → (next : Tables) (r : Outcome) → Walks w now next r → Walks whole old next r
  ends w p next (Ok x) (kept, is) = (
    p.kept (subst (λ (raw : RawProgram). AreKept raw ((w raw).gives (scope_of now))) p.text kept),
    record {
      scope_is = is.scope_is ∙ ap (λ (raw : RawProgram). (w raw).after (scope_of now)) p.text ∙ sym p.after;
      text = is.text ∙ p.text;
      right = λ r. is.right (p.right r);
    },
  )
  ends w p next (Err e) h = p.told e (subst (λ (raw : RawProgram). Tells raw ((w raw).gives (scope_of now)) e) p.text h)

-- a stretch in another form
pub restated : (w v : Stretch) (old new : Tables) (r : Outcome) → w old.raw.now ≡ v old.raw.now → Walks w old new r → Walks v old new r
restated w v old new r e h = ends v old old w (left_same v old old v w (sym e) (begins v old)) new r h

-- two stretches
pub two : (w v : Stretch) (old now new : Tables) (r : Outcome) → Walks w old now (Ok tt) → Walks v now new r → Walks (then_comes w v) old new r
two w v old now new r first second = ends (then_comes w v) old now v (turn (then_comes w v) old old w v (begins (then_comes w v) old) now first) new r second

pub first_stops : (w v : Stretch) (old now : Tables) (e : WalkFault) → Walks w old now (Err e) → Walks (then_comes w v) old now (Err e)
first_stops w v old now e h = stops (then_comes w v) old old w v (begins (then_comes w v) old) now e h

-- a block takes away the names that it declares
pub cut : (before x y : Scope) (b : Before) → Extends x y → x.names ≡ before.names → b.names ≡ length before.names → b.outer ≡ before.outer → b.owner ≡ before.owner
    → record y { names = take b.names y.names; outer = b.outer; owner = b.owner } ≡ closed before y
cut before x y b e same names outer owner =
    ap (λ (n : ℕ). record y { names = take n y.names; outer = b.outer; owner = b.owner }) names
    ∙ ap (λ (n : ℕ). record y { names = take (length before.names) y.names; outer = n; owner = b.owner }) outer
    ∙ ap (λ (o : Option ℕ). record y { names = take (length before.names) y.names; outer = before.outer; owner = o }) owner
    ∙ ap (λ ns. record y { names = ns; outer = before.outer; owner = before.owner }) (ap (λ ns. take (length ns) y.names) (sym same) ∙ front x y e ∙ same)

-- a stretch that is walked behind the opening of a block, and the close of the block
module _ (w : Stretch) (old opens inside closes : Tables) (b : Before) where
  pub encloses : ((raw : RawProgram) (x : Scope) → Extends x ((w raw).after x)) → b.names ≡ length (scope_of old).names → b.outer ≡ (scope_of old).outer → b.owner ≡ (scope_of old).owner
      → IsAt old opens (opened (scope_of old)) → Walks w opens inside (Ok tt)
      → IsAt inside closes (record (scope_of inside) { names = take b.names (scope_of inside).names; outer = b.outer; owner = b.owner })
      → Walks (enclosed w) old closes (Ok tt)
  encloses grows names outer owner opening (kept, within) closing =
      let raw = old.raw.now in
      let at : scope_of inside ≡ (w raw).after (opened (scope_of old)) = within.scope_is ∙ ap (w opens.raw.now).after opening.scope_is ∙ ap (λ (r : RawProgram). (w r).after (opened (scope_of old))) opening.text in
      let cuts : record (scope_of inside) { names = take b.names (scope_of inside).names; outer = b.outer; owner = b.owner } ≡ closed (scope_of old) (scope_of inside) = cut (scope_of old) (opened (scope_of old)) (scope_of inside) b (subst (Extends (opened (scope_of old))) (sym at) (grows raw (opened (scope_of old)))) refl names outer owner in (
        subst (λ (r : RawProgram). AreKept r ((w r).gives (opened (scope_of old)))) opening.text (subst (λ (x : Scope). AreKept opens.raw.now ((w opens.raw.now).gives x)) opening.scope_is kept),
        record {
          scope_is = closing.scope_is ∙ cuts ∙ ap (closed (scope_of old)) at;
          text = closing.text ∙ within.text ∙ opening.text;
          right = λ r. closing.right (within.right (opening.right r));
        },
      )

  pub enclosed_stops : (e : WalkFault) → IsAt old opens (opened (scope_of old)) → Walks w opens inside (Err e) → Walks (enclosed w) old closes (Err e)
  enclosed_stops e opening h =
      subst (λ (r : RawProgram). Tells r ((w r).gives (opened (scope_of old))) e) opening.text (subst (λ (x : Scope). Tells opens.raw.now ((w opens.raw.now).gives x) e) opening.scope_is h)
