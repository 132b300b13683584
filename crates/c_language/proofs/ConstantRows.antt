-- Constants at the edges of their types, as the definitions compute them.
use Rattle.std.specs.Prelude.{◌≡◌, [], ◌∷◌, Some, None, codes, refl}
use Rattle.c_arith.specs.declared.int_type.IntType.TheVariants.{Int, UInt, Long, ULong}
use Rattle.c_language.specs.Constants.{constant_type, constant_value, literal_bytes, character_value, unescaped}

int_most : constant_type (codes "2147483647") ≡ Some Int
unfolding constant_type constant_value
int_most = refl

long_least : constant_type (codes "2147483648") ≡ Some Long
unfolding constant_type constant_value
long_least = refl

uint_most : constant_type (codes "4294967295u") ≡ Some UInt
unfolding constant_type constant_value
uint_most = refl

hex_int : constant_type (codes "0x7fffffff") ≡ Some Int
unfolding constant_type constant_value
hex_int = refl

hex_uint : constant_type (codes "0xffffffff") ≡ Some UInt
unfolding constant_type constant_value
hex_uint = refl

hex_least : constant_type (codes "0x80000000") ≡ Some UInt
unfolding constant_type constant_value
hex_least = refl

long_most : constant_type (codes "9223372036854775807") ≡ Some Long
unfolding constant_type constant_value
long_most = refl

past_long : constant_type (codes "9223372036854775808") ≡ None
unfolding constant_type constant_value
past_long = refl

ulong_most : constant_type (codes "18446744073709551615u") ≡ Some ULong
unfolding constant_type constant_value
ulong_most = refl

past_ulong : constant_type (codes "18446744073709551616") ≡ None
unfolding constant_type constant_value
past_ulong = refl

octal : constant_value (codes "017") ≡ 15
unfolding constant_value
octal = refl

not_octal : constant_type (codes "08") ≡ None
unfolding constant_type constant_value
not_octal = refl

no_digits : constant_type (codes "0x") ≡ None
unfolding constant_type constant_value
no_digits = refl

run_with_sign : constant_type (codes "0xE+1") ≡ None
unfolding constant_type constant_value
run_with_sign = refl

split_suffix : constant_type (codes "1lul") ≡ None
unfolding constant_type constant_value
split_suffix = refl

mixed_suffix : constant_type (codes "1uL") ≡ Some ULong
unfolding constant_type constant_value
mixed_suffix = refl

escapes_spelled : literal_bytes (codes "\"a\\n\\\\\\0\"") ≡ 97 ∷ 10 ∷ 92 ∷ 0 ∷ []
unfolding unescaped
escapes_spelled = refl

quote_value : character_value (codes "'\\''") ≡ 39
unfolding unescaped
quote_value = refl
