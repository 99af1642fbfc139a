-- A fact of each call of a list, one after another.

infixr 20 ◌also◌
-- a fact of the first, and facts of the others
abbrev pub ◌also◌ : {A B : Type 0} → A → B → A × B
a also b = (a, b)
