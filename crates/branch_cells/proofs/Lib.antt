-- Lemmas.
mod Items
mod Filled
mod EndLiterals
mod SameParts
mod Narrowing
mod Eithers
mod Followed
