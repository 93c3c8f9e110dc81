use Rattle.std.proofs.Common.{inl, inr}
use Rattle.ignore_rules.proofs.fit_table.put.Goals as goal

pub returns-in-Many-clause-places : goal.returns-in-Many-clause-places
returns-in-Many-clause-places g c test is = rw c.in-Many.is (c.put_many.ensures.places test is)

pub returns-in-Folders-clause-places : goal.returns-in-Folders-clause-places
returns-in-Folders-clause-places g c test is = rw c.in-Folders.is (c.put_folders.ensures.places test is)

pub returns-in-Byte-clause-places : goal.returns-in-Byte-clause-places
returns-in-Byte-clause-places g c test is =
    elim c.in-Byte.is [
      | inl byte ↦ rw byte.1 (rw byte.1 at (c.put_byte.ensures.places test is))
      | inr other ↦
          elim other [
            | inl one ↦ rw one (rw one at (c.put_byte.ensures.places test is))
            | inr other ↦
                elim other [
                  | inl set ↦ rw set.1 (rw set.1 at (c.put_byte.ensures.places test is))
                  | inr other ↦
                      elim other [
                        | inl set ↦ rw set.1 (rw set.1 at (c.put_byte.ensures.places test is))
                        | inr nothing ↦ rw nothing (rw nothing at (c.put_byte.ensures.places test is))
                      ]
                ]
          ]
    ]
