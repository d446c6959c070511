mod ElementLaws
