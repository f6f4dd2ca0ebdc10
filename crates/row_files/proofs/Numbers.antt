-- The numbers of kinds and objects are those by which `==` tells them apart.
use Rattle.std.proofs.Common.{◌≡◌, ℕ, refl, ap₂}
use Rattle.std.specs.Prelude.{◌==◌}
use denote.Enum.Bare.{sameb}
use denote.Enum.Declared.{tag_of}
use Rattle.row_files.specs.Failures.{object_number}
use Rattle.row_files.specs.Texts.{kind_number, same_kind}
use Rattle.row_files.specs.contracts.row.Kind as kind
use Rattle.row_files.specs.contracts.row.Object as object
use Rattle.row_files.specs.declared.row.Kind.{Kind}
use Rattle.row_files.specs.declared.row.Kind.TheVariants.{Held, Written, Absent, Out, Err, Arriving, Sent, Calls, Before, Between, After}
use Rattle.row_files.specs.declared.row.Object.{Object}
use Rattle.row_files.specs.declared.row.Object.TheVariants.{Files, Links, Children}
use Rattle.row_files.specs.declared.row.Object.TheVariants as object_variant

tag_of-kind : (k : Kind) → tag_of kind.the_type k ≡ kind_number k
tag_of-kind Held = refl
tag_of-kind Written = refl
tag_of-kind Absent = refl
tag_of-kind Out = refl
tag_of-kind Err = refl
tag_of-kind Arriving = refl
tag_of-kind Sent = refl
tag_of-kind Calls = refl
tag_of-kind Before = refl
tag_of-kind Between = refl
tag_of-kind After = refl

pub sameb-kind : (k l : Kind) → sameb kind.the_type k l ≡ same_kind k l
sameb-kind k l = ap₂ (λ (x y : ℕ). x == y) (tag_of-kind k) (tag_of-kind l)

tag_of-object : (o : Object) → tag_of object.the_type o ≡ object_number o
tag_of-object Files = refl
tag_of-object object_variant.Out = refl
tag_of-object object_variant.Err = refl
tag_of-object Links = refl
tag_of-object Children = refl

pub sameb-object : (o p : Object) → sameb object.the_type o p ≡ (object_number o == object_number p)
sameb-object o p = ap₂ (λ (x y : ℕ). x == y) (tag_of-object o) (tag_of-object p)
