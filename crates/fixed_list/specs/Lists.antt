-- What a contract sees of a list by value.
use Rattle.std.specs.Prelude.{ℕ, List, ◌++◌, take, drop, refl}
use Rattle.std.specs.Coded.{Coded, code_by, coded×, coded_list}

-- the elements in order, and what is in the places that are still free
pub record ListParts (T : Type 0) : Type 0 where
  pub items : List T
  pub free : List T

-- the places, the first count of which have elements
abbrev pub parted : {T : Type 0} → ℕ → List T → ListParts T
parted count places = record { items = take count places; free = drop count places }

-- all places
abbrev pub places_of : {T : Type 0} → ListParts T → List T
places_of v = v.items ++ v.free

-- a list is stored as the pair of its parts
abbrev pub parts_code : {T : Type 0} → Coded T → Coded (ListParts T)
parts_code {T} code =
    code_by (List T × List T) (coded× (coded_list code) (coded_list code)) (λ v. (v.items, v.free))
    (λ p. record { items = p.0; free = p.1 }) (λ _. refl)
