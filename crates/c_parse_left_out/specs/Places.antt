-- Places at which a left-out construct begins.
use Rattle.std.specs.Prelude.{◌≡◌, ℕ, ◌∷◌, ◌++◌, length, reverse}
use Rattle.c_language.specs.TokenForms.{Tokens}
use Rattle.c_language.specs.LeftOut.{IsTold, IsWithoutProduction, BeginsLeftOut}
use Rattle.c_language.specs.declared.token.Token.{Token}

-- the token at a place begins a construct that is told by its tokens
pub record IsToldAt (ts : Tokens) (at : ℕ) : Type 0 where
  pub front : Tokens
  pub token : Token
  pub behind : Tokens
  pub split : ts ≡ front ++ token ∷ behind
  pub place : at ≡ length front
  pub told : IsTold (reverse front) token behind

-- the token at a place begins a left-out construct
pub record IsLeftOutAt (ts : Tokens) (at : ℕ) : Type 0 where
  pub front : Tokens
  pub token : Token
  pub behind : Tokens
  pub split : ts ≡ front ++ token ∷ behind
  pub place : at ≡ length front
  pub begins : BeginsLeftOut ts front token behind

-- the token at a place begins a construct that has no production
pub record IsWithoutProductionAt (ts : Tokens) (at : ℕ) : Type 0 where
  pub front : Tokens
  pub token : Token
  pub behind : Tokens
  pub split : ts ≡ front ++ token ∷ behind
  pub place : at ≡ length front
  pub is : IsWithoutProduction (reverse front) token behind
